use Rattle.ctw_labels.proofs.BodyOps.{body_sites_flat, body_facts_flat}
use Rattle.ctw_labels.proofs.laws.opcodes_have_the_sites_of_the_tree.Goals as goal

pub returns-clause-sites : goal.returns-clause-sites
returns-clause-sites c = λ P C e code n. body_sites_flat P C e code n

pub returns-clause-facts : goal.returns-clause-facts
returns-clause-facts c = λ P C e code n. body_facts_flat P C e code n
