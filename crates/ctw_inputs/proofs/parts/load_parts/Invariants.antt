use Rattle.std.proofs.Common.{◌≡◌, ◌+◌, ◌≤◌, map, take, Some}
use Rattle.ctw_io.specs.Files.{Files}
use Rattle.ctw_inputs.specs.Parts.{bytes_in}
use Rattle.ctw_inputs.proofs.PartsLoaded.{GoesOn}
use Rattle.ctw_inputs.proofs.parts.load_parts.Given as goal

abbrev pub invariant-parts : goal.invariant-parts
invariant-parts g l = record {
  parts : map (λ p. p.part) l.loaded.items ≡ take l.part-index l.parts;
  left : l.left + bytes_in l.loaded.items ≡ 134217728;
  unchanged : g.F.Shelf.files l.shelf ≡ g.F.Shelf.files l.fn.shelf;
  kept : g.F.Shelf.faults l.fn.shelf ≤ g.F.Shelf.faults l.shelf;
  told : (files : Files) → g.F.Shelf.files l.fn.shelf ≡ Some files → GoesOn files l.parts l.loaded.items l.part-index l.left;
}
