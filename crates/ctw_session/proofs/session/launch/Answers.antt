use Rattle.std.proofs.Common.{◌≡◌, ◌<◌, ℕ, List, [], refl, sym, ap, ◌∙◌, rules, arith}
use Rattle.std.proofs.lemmas.Result.{err_from_is_err_and}
use Rattle.std.proofs.lemmas.List.Elements.{All-from_get_or}
use Rattle.ctw_link.specs.Sets.{set_of}
use Rattle.ctw_launch.specs.Launched.{Fails, launched}
use Rattle.ctw_launch.specs.ErasedSets.{erase_set}
use Rattle.ctw_moves.specs.LaunchedStates.{Faulty, launch as launches}
use Rattle.ctw_session.specs.Launches.{Denies, IsLaunched, IsLaunchedBeside, IsLaunchedErased}
use Rattle.ctw_session.proofs.Launching.{goes_on, loaded_stands, denies_outside, denies_started, denies_beside, denies_erased, launched_beside, launched_erased, first_sound, error_told}
use Rattle.ctw_session.proofs.session.launch.Goals as goal

pub start_parts-requires : goal.start_parts-requires
start_parts-requires c =
    loaded_stands (set_of c.args.set) c.in_ok-store.store.storage c.in_ok-store.ensures.store c.args.set refl c.make_store.ensures.set c.in_ok-check_segments.ensures c.write_segments.new.store.storage c.in_ok-write_segments.ensures

pub returns-in_err-check_segments-clause-launched : goal.returns-in_err-check_segments-clause-launched
returns-in_err-check_segments-clause-launched c =
    let e = c.in_err-check_segments.field-0.0 in
    let p = err_from_is_err_and c.from_residual-in_err-check_segments.result c.from_residual-in_err-check_segments.ensures.1 in
    error_told c.from_residual-in_err-check_segments.result (IsLaunched c.args.set c.args.vault.items) (Denies c.args.set (λ f. launched (set_of c.args.set) ≡ Fails f)) e p.0 p.1 p.2 (denies_outside c.args.set c.in_ok-store.store.storage c.in_ok-store.ensures.store e c.in_err-check_segments.ensures)

pub returns-in_err-check_segments-clause-isolated : goal.returns-in_err-check_segments-clause-isolated
returns-in_err-check_segments-clause-isolated c = λ other same.
    let e = c.in_err-check_segments.field-0.0 in
    let p = err_from_is_err_and c.from_residual-in_err-check_segments.result c.from_residual-in_err-check_segments.ensures.1 in
    error_told c.from_residual-in_err-check_segments.result (IsLaunchedBeside c.args.set c.args.vault.items other) (Denies c.args.set (λ f. launches (set_of c.args.set) other ≡ Faulty f)) e p.0 p.1 p.2 (denies_beside c.args.set other e (denies_outside c.args.set c.in_ok-store.store.storage c.in_ok-store.ensures.store e c.in_err-check_segments.ensures))

pub returns-in_err-check_segments-clause-erased : goal.returns-in_err-check_segments-clause-erased
returns-in_err-check_segments-clause-erased c =
    let e = c.in_err-check_segments.field-0.0 in
    let p = err_from_is_err_and c.from_residual-in_err-check_segments.result c.from_residual-in_err-check_segments.ensures.1 in
    error_told c.from_residual-in_err-check_segments.result (IsLaunchedErased c.args.set c.args.vault.items) (Denies c.args.set (λ f. launches (erase_set (set_of c.args.set)) [] ≡ Faulty f)) e p.0 p.1 p.2 (denies_erased c.args.set c.make_store.ensures.set e (denies_outside c.args.set c.in_ok-store.store.storage c.in_ok-store.ensures.store e c.in_err-check_segments.ensures))

pub returns-in_err-start_parts-clause-launched : goal.returns-in_err-start_parts-clause-launched
returns-in_err-start_parts-clause-launched c =
    let e = c.in_err-start_parts.field-0.0 in
    let p = err_from_is_err_and c.from_residual-in_err-start_parts.result c.from_residual-in_err-start_parts.ensures.1 in
    let h = loaded_stands (set_of c.args.set) c.in_ok-store.store.storage c.in_ok-store.ensures.store c.args.set refl c.make_store.ensures.set c.in_ok-check_segments.ensures c.write_segments.new.store.storage c.in_ok-write_segments.ensures in
    let q = goes_on (set_of c.args.set) c.in_ok-store.store.storage c.in_ok-store.ensures.store c.write_segments.new.store.storage c.in_ok-check_segments.ensures c.in_ok-write_segments.ensures in
    error_told c.from_residual-in_err-start_parts.result (IsLaunched c.args.set c.args.vault.items) (Denies c.args.set (λ f. launched (set_of c.args.set) ≡ Fails f)) e p.0 p.1 p.2 (denies_started c.args.set h.0 _ _ _ q e (c.in_err-start_parts.ensures h.0 h.1))

pub returns-in_err-start_parts-clause-isolated : goal.returns-in_err-start_parts-clause-isolated
returns-in_err-start_parts-clause-isolated c = λ other same.
    let e = c.in_err-start_parts.field-0.0 in
    let p = err_from_is_err_and c.from_residual-in_err-start_parts.result c.from_residual-in_err-start_parts.ensures.1 in
    let h = loaded_stands (set_of c.args.set) c.in_ok-store.store.storage c.in_ok-store.ensures.store c.args.set refl c.make_store.ensures.set c.in_ok-check_segments.ensures c.write_segments.new.store.storage c.in_ok-write_segments.ensures in
    let q = goes_on (set_of c.args.set) c.in_ok-store.store.storage c.in_ok-store.ensures.store c.write_segments.new.store.storage c.in_ok-check_segments.ensures c.in_ok-write_segments.ensures in
    error_told c.from_residual-in_err-start_parts.result (IsLaunchedBeside c.args.set c.args.vault.items other) (Denies c.args.set (λ f. launches (set_of c.args.set) other ≡ Faulty f)) e p.0 p.1 p.2 (denies_beside c.args.set other e (denies_started c.args.set h.0 _ _ _ q e (c.in_err-start_parts.ensures h.0 h.1)))

pub returns-in_err-start_parts-clause-erased : goal.returns-in_err-start_parts-clause-erased
returns-in_err-start_parts-clause-erased c =
    let e = c.in_err-start_parts.field-0.0 in
    let p = err_from_is_err_and c.from_residual-in_err-start_parts.result c.from_residual-in_err-start_parts.ensures.1 in
    let h = loaded_stands (set_of c.args.set) c.in_ok-store.store.storage c.in_ok-store.ensures.store c.args.set refl c.make_store.ensures.set c.in_ok-check_segments.ensures c.write_segments.new.store.storage c.in_ok-write_segments.ensures in
    let q = goes_on (set_of c.args.set) c.in_ok-store.store.storage c.in_ok-store.ensures.store c.write_segments.new.store.storage c.in_ok-check_segments.ensures c.in_ok-write_segments.ensures in
    error_told c.from_residual-in_err-start_parts.result (IsLaunchedErased c.args.set c.args.vault.items) (Denies c.args.set (λ f. launches (erase_set (set_of c.args.set)) [] ≡ Faulty f)) e p.0 p.1 p.2 (denies_erased c.args.set c.make_store.ensures.set e (denies_started c.args.set h.0 _ _ _ q e (c.in_err-start_parts.ensures h.0 h.1)))

pub first-requires : goal.first-requires
first-requires c =
    let h = loaded_stands (set_of c.args.set) c.in_ok-store.store.storage c.in_ok-store.ensures.store c.args.set refl c.make_store.ensures.set c.in_ok-check_segments.ensures c.write_segments.new.store.storage c.in_ok-write_segments.ensures in
    let q = goes_on (set_of c.args.set) c.in_ok-store.store.storage c.in_ok-store.ensures.store c.write_segments.new.store.storage c.in_ok-check_segments.ensures c.in_ok-write_segments.ensures in
    first_sound c.args.set c.make_store.ensures.set c.args.vault.items c.start_parts.new.store.storage (All-from_get_or (λ byte. byte < 256) c.args.vault.items 0 (λ i lt. search rules)) (q ∙ (c.in_ok-start_parts.ensures h.0 h.1).0)

pub returns-clause-launched : goal.returns-clause-launched
returns-clause-launched c =
    let h = loaded_stands (set_of c.args.set) c.in_ok-store.store.storage c.in_ok-store.ensures.store c.args.set refl c.make_store.ensures.set c.in_ok-check_segments.ensures c.write_segments.new.store.storage c.in_ok-write_segments.ensures in
    let q = goes_on (set_of c.args.set) c.in_ok-store.store.storage c.in_ok-store.ensures.store c.write_segments.new.store.storage c.in_ok-check_segments.ensures c.in_ok-write_segments.ensures in
    record { set = c.in_ok-live.ensures.set; storage = c.start_parts.new.store.storage; launched = q ∙ (c.in_ok-start_parts.ensures h.0 h.1).0; stands = c.in_ok-live.ensures.stands }

pub returns-clause-isolated : goal.returns-clause-isolated
returns-clause-isolated c = λ other same.
    let h = loaded_stands (set_of c.args.set) c.in_ok-store.store.storage c.in_ok-store.ensures.store c.args.set refl c.make_store.ensures.set c.in_ok-check_segments.ensures c.write_segments.new.store.storage c.in_ok-write_segments.ensures in
    let q = goes_on (set_of c.args.set) c.in_ok-store.store.storage c.in_ok-store.ensures.store c.write_segments.new.store.storage c.in_ok-check_segments.ensures c.in_ok-write_segments.ensures in
    launched_beside c.args.set c.args.vault.items other _ same (record { set = c.in_ok-live.ensures.set; storage = c.start_parts.new.store.storage; launched = q ∙ (c.in_ok-start_parts.ensures h.0 h.1).0; stands = c.in_ok-live.ensures.stands })

pub returns-clause-erased : goal.returns-clause-erased
returns-clause-erased c =
    let h = loaded_stands (set_of c.args.set) c.in_ok-store.store.storage c.in_ok-store.ensures.store c.args.set refl c.make_store.ensures.set c.in_ok-check_segments.ensures c.write_segments.new.store.storage c.in_ok-write_segments.ensures in
    let q = goes_on (set_of c.args.set) c.in_ok-store.store.storage c.in_ok-store.ensures.store c.write_segments.new.store.storage c.in_ok-check_segments.ensures c.in_ok-write_segments.ensures in
    launched_erased c.args.set c.make_store.ensures.set c.args.vault.items _ (record { set = c.in_ok-live.ensures.set; storage = c.start_parts.new.store.storage; launched = q ∙ (c.in_ok-start_parts.ensures h.0 h.1).0; stands = c.in_ok-live.ensures.stands })
