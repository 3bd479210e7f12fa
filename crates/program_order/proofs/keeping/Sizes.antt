-- Memory keeps its size, and the package of a request is within it.
use Rattle.std.specs.Prelude.{option_and_then, is_some, unwrap_or}
use Rattle.std.proofs.Common.{◌≡◌, ◌≤◌, ◌+◌, ℕ, Bool, true, false, List, [], ◌∷◌, Option, Some, None, cond, length}
use Rattle.std.proofs.Common.{refl, sym, ap, ◌∙◌, subst, arith}
use Rattle.std.proofs.lemmas.List.{length-set}
use Rattle.std.proofs.lemmas.Bool.{false≢true, leb-true}
use Rattle.exchange_package.specs.Package.{words_of}
use Rattle.relocation.specs.Relocation.{package_fits}
use Rattle.relocation.proofs.Overwriting.{length-overwritten}
use Rattle.sequential.specs.declared.fetching.Fetched.{Fetched}
use Rattle.sequential.specs.declared.state.State.{State}
use Rattle.sequential.specs.Replay.{LogStep, do_log_step, replay, boot}
use Rattle.sequential.specs.State.{Bounds, bounds_of, halt_by, move_to, store_word}
use Rattle.sequential.specs.Step.{do_fetched, do_instruction, step, step_unless}
use Rattle.sequential.specs.Swap.{program_entered, package_of, swap}
use Rattle.program_order.specs.Invariant.{Fits, IsReplay}
use Rattle.program_order.specs.Processor.{Processor, completed, replayed}
use Rattle.program_order.proofs.effects.Completing.{complete-bounds}
use Rattle.program_order.proofs.effects.Effects.{do_work-bounds}

fetched_size : (b : Bounds) (s : State) (at : ℕ) (g : Fetched) → length (do_fetched b s at g).memory ≡ length s.memory
unfolding do_fetched do_instruction halt_by move_to bounds_of
fetched_size b s h g = grind (arith, do_work-bounds)

step_size : (s : State) → length (step s).memory ≡ length s.memory
unfolding step step_unless
step_size s = grind (arith, fetched_size)

pub package_within : (n size : ℕ) → package_fits n size ≡ true → n + 16 ≤ size
unfolding package_fits
package_within n size h = leb-true (n + 16) size h

pub swap_size : (s : State) (n : ℕ) → package_fits n (length s.memory) ≡ true
    → length (swap n s).memory ≡ length s.memory
unfolding swap program_entered words_of
swap_size s n h = length-overwritten s.memory n (words_of (package_of s)) (package_within n (length s.memory) h)

if_within : (b : Bool) (s u t : State) → cond b (Some u) None ≡ Some t → length u.memory ≡ length s.memory
    → length t.memory ≡ length s.memory
if_within true s u t e k = sym (ap (λ o. length (unwrap_or o s).memory) e) ∙ k
if_within false s u t e k = absurd (false≢true (ap is_some e))

log_step_size : (s : State) (x : LogStep) (t : State) → do_log_step s x ≡ Some t → length t.memory ≡ length s.memory
unfolding do_log_step store_word
log_step_size s x t h = grind (arith, step_size, swap_size, if_within, false≢true, length-set)

pub replay_size : (s : State) (xs : List LogStep) (t : State) → replay s xs ≡ Some t → length t.memory ≡ length s.memory
unfolding replay
replay_size s [] t h = sym (ap (λ o. length (unwrap_or o s).memory) h)
replay_size s (x ∷ xs) t h = after (do_log_step s x) refl (λ u. replay_size u xs t) h
  where
    after : (o : Option State) → do_log_step s x ≡ o
        → ((u : State) → replay u xs ≡ Some t → length t.memory ≡ length u.memory)
        → option_and_then (λ u. replay u xs) o ≡ Some t → length t.memory ≡ length s.memory
    after None e ih k = absurd (false≢true (ap is_some k))
    after (Some u) e ih k = ih u k ∙ log_step_size s x u e

-- the boot memory has the size of the memory
pub boot_size : (w : Processor) → IsReplay w → length w.boot_memory ≡ length w.state.memory
unfolding completed replayed boot bounds_of
boot_size w r =
    sym (replay_size (boot w.boot_memory) w.log (completed w) r)
    ∙ ap (λ (d : Bounds). d.size) (complete-bounds (bounds_of w.state) w.state w.pending)

-- the package of a request is within memory
pub request_within : (w : Processor) (at : ℕ) → Fits w.request (length w.state.memory) → w.request ≡ Some at
    → package_fits at (length w.state.memory) ≡ true
request_within w at f e = subst (λ o. Fits o (length w.state.memory)) e f
