-- A log with a refused step: nothing is printed, and no write has failed.
use Rattle.std.proofs.Common.{◌≡◌, ◌⊎◌, ℕ, Bool, true, false, cond, List, Option, Some, None, sym, ap, ◌∙◌, subst}
use Rattle.std.proofs.Common.{ltb, inl, inr, ⊎_elim}
use Rattle.std.proofs.KnownBytes.{Keeps-refl}
use Rattle.std.specs.Prelude.{Err}
use Rattle.relocation.specs.Relocation.{package_fits}
use Rattle.instructions.specs.declared.refusal.Refusal.{Refusal}
use Rattle.instructions.specs.declared.refusal.Refusal.TheVariants.{PackageRange, PeripheralRange}
use Rattle.sequential.specs.declared.state.State.{State}
use Rattle.sequential.specs.Replay.{LogStep, Issued, Exchanged, ReadAt, Wrote, IsRefusedAt, boot, replay, step_refusal}
use Rattle.deck.specs.declared.deck.Deck.{Deck}
use Rattle.deck.specs.declared.deck.Show.{Show}
use Rattle.job_deck.specs.Listing.{is_write_failure}
use Rattle.job_deck.specs.Replaying.{Prints, Undefined, reached, replayed_steps}

unfit_is : (b : Bool) (j k : Refusal) → cond b None (Some j) ≡ Some k → k ≡ j
unfit_is true j k h = cc
unfit_is false j k h = cc

step_named : (size : ℕ) (x : LogStep) (k : Refusal) → step_refusal size x ≡ Some k
    → (k ≡ PackageRange) ⊎ (k ≡ PeripheralRange)
unfolding step_refusal
step_named size Issued k h = absurd (cc)
step_named size (Exchanged n) k h = inl (unfit_is (package_fits n size) PackageRange k h)
step_named size (ReadAt a) k h = inr (unfit_is (ltb a size) PeripheralRange k h)
step_named size (Wrote a w) k h = inr (unfit_is (ltb a size) PeripheralRange k h)

undefined_printed : (k : Refusal) (start end : State) (steps : List LogStep) (shows : List Show)
    (old : Option (List ℕ)) → IsRefusedAt start steps end k → Prints (Err k) (Undefined start steps) shows old old
undefined_printed k start end steps shows old r =
    ⊎_elim
    (λ e. subst (λ x. Prints (Err x) (Undefined start steps) shows old old) (sym e)
    ((end, subst (IsRefusedAt start steps end) e r), Keeps-refl old))
    (λ e. subst (λ x. Prints (Err x) (Undefined start steps) shows old old) (sym e)
    ((end, subst (IsRefusedAt start steps end) e r), Keeps-refl old))
    (step_named _ r.at k r.refused)

pub refused_printed : (k : Refusal) (d : Deck) (found : Option (List LogStep)) (memory : List ℕ) (start end : State)
    (steps : List LogStep) (old : Option (List ℕ)) → found ≡ Some steps → memory ≡ d.image.memory → start ≡ boot memory
    → replay start steps ≡ None → IsRefusedAt start steps end k
    → Prints (Err k) (replayed_steps d.image.memory found) d.shows old old
refused_printed k d found memory start end steps old l m b n r =
    let from : start ≡ boot d.image.memory = b ∙ ap boot m in
    subst (λ x. Prints (Err k) x d.shows old old)
    (sym (ap (replayed_steps d.image.memory) l
    ∙ ap (λ s. reached s steps (replay s steps)) (sym from)
    ∙ ap (reached start steps) n))
    (undefined_printed k start end steps d.shows old r)

pub refused_unwritten : (k : Refusal) (start end : State) (steps : List LogStep) → IsRefusedAt start steps end k
    → is_write_failure {T = Option State} (Err k) ≡ false
refused_unwritten k start end steps r =
    ⊎_elim (λ e. ap (λ x. is_write_failure {T = Option State} (Err x)) e)
    (λ e. ap (λ x. is_write_failure {T = Option State} (Err x)) e)
    (step_named _ r.at k r.refused)
