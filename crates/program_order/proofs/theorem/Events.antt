-- One event on a list that is split at the instruction of the event, over plain variables: the pending instructions
-- stay apart, and completing them gives the same state.
use Rattle.std.proofs.Common.{◌≡◌, ℕ, false, List, [], ◌∷◌, ◌++◌, Option, Some, None, refl, sym, ap, ◌∙◌, get_or, arith}
use Rattle.std.specs.Prelude.{◌&&◌}
use Rattle.std.proofs.lemmas.Bool.{and_right}
use Rattle.std.specs.List.{list_any}
use Rattle.instructions.proofs.Lists.{each_map, pairs_before, pairs_without}
use Rattle.program_order.proofs.effects.Effects.{rest_targets}
use Rattle.in_flight.proofs.asking.Phases.{targets_left}
use Rattle.program_order.proofs.effects.OnePending.{operands-agree}
use Rattle.program_order.proofs.effects.Completing.{complete-get, complete-now, complete-word, complete-store_word}
use Rattle.program_order.proofs.effects.Completing.{complete-write, each_all}
use Rattle.program_order.proofs.theorem.Moves.{complete-put_back, finish_effects-read, finish_effects-finish}
use Rattle.program_order.proofs.theorem.Moves.{finish_effects-store, finish_effects-accept_load}
use Rattle.program_order.proofs.theorem.Moves.{finish_effects-accept_store, finish_effects-return}
use Rattle.program_order.proofs.theorem.Apart.{not_awaited, free_to_put, free_to_return, turns_past, untouched}
use Rattle.program_order.proofs.theorem.Apart.{unstored, no_branches, pairs_less, less_before, less_after}
use Rattle.program_order.proofs.theorem.Apart.{less_accepted, turns_at_store}
use Rattle.instructions.specs.Shape.{has_reference, sets_of, shape_of}
use Rattle.instructions.specs.Operands.{sources_of}
use Rattle.instructions.specs.declared.instr.Reg.TheVariants.{X}
use Rattle.instructions.specs.Each.{Each, Pairs}
use Rattle.in_flight.specs.Pending.{awaited, entered_in, has_turn, holds_back, is_entered, to_be_read}
use Rattle.in_flight.proofs.asking.PendingReservations.{comes}
use Rattle.program_order.specs.Complete.{complete}
use Rattle.in_flight.specs.Apart.{IsApart}
use Rattle.in_flight.specs.Lookup.{in_phase, kept}
use Rattle.program_order.specs.Units.{rest_of, stage_after_finish, stage_after_read}
use Rattle.in_flight.specs.declared.pending.Outstanding.{Outstanding}
use Rattle.in_flight.specs.declared.pending.Outstanding.TheVariants.{Accepted, Entered}
use Rattle.in_flight.specs.declared.pending.Pending.{Pending}
use Rattle.in_flight.specs.declared.pending.Phase.TheVariants.{After, Before}
use Rattle.in_flight.specs.declared.pending.Stage.{Stage}
use Rattle.in_flight.specs.declared.pending.Stage.TheVariants.{Finished}
use Rattle.relocation.specs.declared.area.Access.TheVariants.{Load as LoadInto, Store as StoreWord}
use Rattle.sequential.specs.State.{Bounds, store_word, write}
use Rattle.sequential.specs.Work.{write_and_jump, reference_for, work_of}
use Rattle.sequential.specs.declared.state.State.{State}
use Rattle.unit_ops.specs.declared.UnitValue.{UnitValue}

-- the pending instructions stay apart, and completing them gives the same state
pub record IsKept (b : Bounds) (s c : State) (ms ns : List Pending) : Type 0 where
  pub apart : Pairs IsApart ns
  pub same : complete b c ns ≡ complete b s ms

-- an instruction that isn't in the hopper waits for no reference
not_entered : (es : List Pending) (m : Pending) → is_entered m ≡ false
    → Each (λ e. (is_entered m && has_turn e) ≡ false) es
not_entered es m h = each_all (λ e. (is_entered m && has_turn e) ≡ false) (λ e. ap (λ f. f && has_turn e) h) es

pub read_event : (b : Bounds) (s : State) (es : List Pending) (m : Pending) (ls : List Pending) (t : Stage)
    → m.phase ≡ Before t → list_any (awaited es) (sources_of m.instr) ≡ false → Pairs IsApart (es ++ m ∷ ls)
    → IsKept b s s (es ++ m ∷ ls) (es ++ (in_phase m (Before (stage_after_read s.registers m.instr m.at t)) ∷ [] ++ ls))
unfolding is_entered entered_in in_phase complete
read_event b s es m ls t e h apart = record {
  apart = pairs_less es (in_phase m (Before (stage_after_read s.registers m.instr m.at t))) m ls (less_before m t _ e)
      (not_entered es (in_phase m (Before (stage_after_read s.registers m.instr m.at t))) refl) apart;
  same =
      search (
        arith,
        complete-put_back,
        finish_effects-read,
        operands-agree,
        each_map,
        comes,
        complete-get,
        not_awaited,
      );
}

pub finish_event : (b : Bounds) (s : State) (es : List Pending) (m : Pending) (ls : List Pending) (t : Stage)
    → m.phase ≡ Before t → Pairs IsApart (es ++ m ∷ ls)
    → IsKept b s s (es ++ m ∷ ls) (es ++ (in_phase m (Before (stage_after_finish m.instr t)) ∷ [] ++ ls))
unfolding is_entered entered_in in_phase complete
finish_event b s es m ls t e apart = record {
  apart = pairs_less es (in_phase m (Before (stage_after_finish m.instr t))) m ls (less_before m t _ e)
      (not_entered es (in_phase m (Before (stage_after_finish m.instr t))) refl) apart;
  same = search (arith, complete-put_back, finish_effects-finish);
}

kept_apart : (es : List Pending) (m : Pending) (ls : List Pending) (t : Stage) (b : Bounds) (slot : ℕ) (v : UnitValue)
    (o : Option Outstanding) → rest_of b slot (reference_for (shape_of m.instr) v) ≡ o → m.phase ≡ Before t
    → (has_reference (shape_of m.instr) && list_any has_turn es) ≡ false → Pairs IsApart (es ++ m ∷ ls)
    → Pairs IsApart (es ++ (kept m o ++ ls))
unfolding kept targets_left
kept_apart es m ls t b slot v None k e h apart = pairs_without IsApart es m ls apart
kept_apart es m ls t b slot v (Some l) k e h apart =
    pairs_less es _ m ls
    (less_after m t l e (ap targets_left (sym k) ∙ rest_targets b slot (shape_of m.instr) v))
    (each_map (λ y. has_turn y ≡ false) _ (λ y i. and_right _ (has_turn y) i) es
    (turns_at_store b slot (shape_of m.instr) v l es k h))
    apart

pub store_event : (b : Bounds) (s : State) (es : List Pending) (m : Pending) (ls : List Pending) (v : UnitValue)
    (slot : ℕ) → m.phase ≡ Before (Finished v) → list_any (to_be_read es) (sets_of (shape_of m.instr)) ≡ false
    → (has_reference (shape_of m.instr) && list_any has_turn es) ≡ false → Pairs IsApart (es ++ m ∷ ls)
    → IsKept b s (write_and_jump b s (work_of (shape_of m.instr) v)) (es ++ m ∷ ls)
    (es ++ (kept m (rest_of b slot (work_of (shape_of m.instr) v).reference) ++ ls))
unfolding work_of
store_event b s es m ls v slot e held turn apart =
    let before = pairs_before IsApart es m ls apart in
    record {
      apart = kept_apart es m ls (Finished v) b slot v _ refl e turn apart;
      same = complete-put_back b s (write_and_jump b s (work_of (shape_of m.instr) v)) es _ m ls
          (ap (λ x. complete b x (kept m (rest_of b slot (work_of (shape_of m.instr) v).reference)))
          (complete-now b b s es (shape_of m.instr) v (no_branches es m before)
          (free_to_put es m (Finished v) e before held))
          ∙ finish_effects-store b (complete b s es) m v slot e);
    }

pub accept_load_event : (b : Bounds) (s : State) (es : List Pending) (m : Pending) (ls : List Pending) (slot a n : ℕ)
    → m.phase ≡ After (Entered slot a (LoadInto n)) → list_any (holds_back a (LoadInto n)) es ≡ false
    → Pairs IsApart (es ++ m ∷ ls)
    → IsKept b s s (es ++ m ∷ ls) (es ++ (in_phase m (After (Accepted n (get_or s.memory a 0))) ∷ [] ++ ls))
unfolding is_entered entered_in in_phase complete
accept_load_event b s es m ls slot a n e first apart =
    let turns = turns_past es m slot a _ e (pairs_before IsApart es m ls apart) in
    grind (
      arith,
      pairs_less es (in_phase m (After (Accepted n (get_or s.memory a 0)))) m ls (less_accepted m slot a n _ e) (not_entered es (in_phase m (After (Accepted n (get_or s.memory a 0)))) refl) apart,
      not_entered es (in_phase m (After (Accepted n (get_or s.memory a 0)))) refl,
      complete-put_back b s s es ((in_phase m (After (Accepted n (get_or s.memory a 0)))) ∷ []) m ls (finish_effects-accept_load b (complete b s es) m slot a n _ e (sym (complete-word b s es a (unstored es a n turns first)))),
      complete-word b s es a (unstored es a n turns first),
      unstored es a n turns first,
    )

pub accept_store_event : (b : Bounds) (s : State) (es : List Pending) (m : Pending) (ls : List Pending) (slot a v : ℕ)
    → m.phase ≡ After (Entered slot a (StoreWord v)) → list_any (holds_back a (StoreWord v)) es ≡ false
    → Pairs IsApart (es ++ m ∷ ls) → IsKept b s (store_word s a v) (es ++ m ∷ ls) (es ++ ([] ++ ls))
accept_store_event b s es m ls slot a v e first apart =
    let turns = turns_past es m slot a _ e (pairs_before IsApart es m ls apart) in
    record {
      apart = pairs_without IsApart es m ls apart;
      same = complete-put_back b s (store_word s a v) es [] m ls
          (grind (arith, complete-store_word, untouched, finish_effects-accept_store));
    }

pub return_event : (b : Bounds) (s : State) (es : List Pending) (m : Pending) (ls : List Pending) (c v : ℕ)
    → m.phase ≡ After (Accepted c v) → to_be_read es (X c) ≡ false → Pairs IsApart (es ++ m ∷ ls)
    → IsKept b s (write s (X c) v) (es ++ m ∷ ls) (es ++ ([] ++ ls))
return_event b s es m ls c v e held apart =
    record {
      apart = pairs_without IsApart es m ls apart;
      same = complete-put_back b s (write s (X c) v) es [] m ls
          (ap (λ x. complete b x []) (complete-write b s es (X c) v
          (free_to_return es m c v e (pairs_before IsApart es m ls apart) held)) ∙ finish_effects-return b (complete b s
          es) m c v e);
    }
