-- The facts and the users that the walk over a body's bytes notes, opcode by opcode.
use Rattle.std.proofs.Common.{◌≡◌, ℕ, ◌+◌, ◌<◌, ◌≤◌, List, [], ◌∷◌, ◌++◌, length, Ok, refl, sym, ◌∙◌, ap, arith, append_assoc}
use Rattle.std.proofs.lemmas.List.{append-nil}
use Rattle.ctw_ops.specs.declared.types.Label.{Label}
use Rattle.ctw_ops.specs.Code.{Code, Op, opcodes}
use Rattle.ctw_ops.specs.Typing.{Context}
use Rattle.ctw_stack.specs.Opens.{Open}
use Rattle.ctw_flat.specs.Spelled.{IsBody}
use Rattle.ctw_flat.specs.Places.{Placed, Stand, ops_of, instr_in}
use Rattle.ctw_flat.proofs.Places.{stands, step, ended}
use Rattle.ctw_labels.specs.declared.tag.Tag.{Tag}
use Rattle.ctw_labels.specs.Links.{Fact}
use Rattle.ctw_labels.specs.Numbering.{BodyPlace}
use Rattle.ctw_labels.specs.FlatSites.{opens_behind, op_sites, op_facts, flat_facts}
use Rattle.ctw_sites.specs.Bodies.{outermost}
use Rattle.ctw_links.specs.declared.user.User.{User}
use Rattle.ctw_links.specs.Uses.{op_users, flat_users}

-- what is noted, with what the opcodes that are left have, is all
pub record Noting (P : BodyPlace Label) (C : Context Tag) (code : Code Label) (bytes : List ℕ) (place at n : ℕ) (b : List (Open Tag)) (told first_told : List (Fact Tag)) (users first_users : List User) (first : ℕ) : Type 0 where
  pub left : List Placed
  pub stand : Stand bytes place left
  pub facts : told ++ flat_facts P C (ops_of left) b n at ≡ first_told ++ flat_facts P C (opcodes code) (outermost C) first 0
  pub uses : users ++ flat_users P C (ops_of left) b n at ≡ first_users ++ flat_users P C (opcodes code) (outermost C) first 0

module _ (P : BodyPlace Label) (C : Context Tag) (code : Code Label) (bytes : List ℕ) (first_told : List (Fact Tag)) (first_users : List User) (first : ℕ) where
  pub noting_begins : (b : List (Open Tag)) → IsBody bytes code → b ≡ outermost C → Noting P C code bytes 0 0 first b first_told first_told first_users first_users first
  noting_begins b m r =
      let s = stands bytes 0 (opcodes code) (omega arith) m in
      record {
        left = s.0;
        stand = s.1;
        facts = λ i. first_told ++ flat_facts P C (s.2 i) (r i) first 0;
        uses = λ i. first_users ++ flat_users P C (s.2 i) (r i) first 0;
      }

  pub noting_on : (place at n : ℕ) (b : List (Open Tag)) (told : List (Fact Tag)) (users : List User) (op : Op Label) (next : ℕ) → Noting P C code bytes place at n b told first_told users first_users first → place < length bytes → instr_in bytes place ≡ Ok (op, next)
      → (b' : List (Open Tag)) (n' : ℕ) (told' : List (Fact Tag)) (users' : List User) → b' ≡ opens_behind P C n at op b → n' ≡ n + length (op_sites P C n at op b) → told' ≡ told ++ op_facts P C n op b → users' ≡ users ++ op_users n op
      → Noting P C code bytes next (at + 1) n' b' told' first_told users' first_users first
  noting_on place at n b told users op next h lt e b' n' told' users' eb en et eu =
      let s = step bytes place h.left op next lt h.stand e in
      let all = ap ops_of s.2 in
      record {
        left = s.0;
        stand = s.1;
        facts = (λ i. et i ++ flat_facts P C (ops_of s.0) (eb i) (en i) (at + 1))
            ∙ append_assoc told (op_facts P C n op b) (flat_facts P C (ops_of s.0) (opens_behind P C n at op b) (n + length (op_sites P C n at op b)) (at + 1))
            ∙ ap (λ z. told ++ flat_facts P C z b n at) (sym all) ∙ h.facts;
        uses = (λ i. eu i ++ flat_users P C (ops_of s.0) (eb i) (en i) (at + 1))
            ∙ append_assoc users (op_users n op) (flat_users P C (ops_of s.0) (opens_behind P C n at op b) (n + length (op_sites P C n at op b)) (at + 1))
            ∙ ap (λ z. users ++ flat_users P C z b n at) (sym all) ∙ h.uses;
      }

  pub noting_done : (place at n : ℕ) (b : List (Open Tag)) (told : List (Fact Tag)) (users : List User) → Noting P C code bytes place at n b told first_told users first_users first → place ≤ length bytes → length bytes ≤ place
      → (told ≡ first_told ++ flat_facts P C (opcodes code) (outermost C) first 0) × (users ≡ first_users ++ flat_users P C (opcodes code) (outermost C) first 0)
  noting_done place at n b told users h inside ge =
      let none = ended bytes place h.left inside ge h.stand in (
        sym (append-nil told) ∙ ap (λ z. told ++ flat_facts P C (ops_of z) b n at) (sym none) ∙ h.facts,
        sym (append-nil users) ∙ ap (λ z. users ++ flat_users P C (ops_of z) b n at) (sym none) ∙ h.uses,
      )
