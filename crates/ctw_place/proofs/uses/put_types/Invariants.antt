use Rattle.ctw_labels.specs.Fits.{label_at}
use Rattle.ctw_labels.specs.Links.{at_tag}
use Rattle.ctw_place.proofs.TypesUnder.{TypesPut}
use Rattle.ctw_place.proofs.uses.put_types.Given as goal

-- the first ones are written
abbrev pub invariant-types : goal.invariant-types
invariant-types l = TypesPut (at_tag (label_at l.labels)) l.first l.bytes l.byte-index l.site l.public l.initial.out.items l.out.items
