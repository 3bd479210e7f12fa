-- The saved words of memory fit the memory, and the boot memory survives an exchange that saved its words first.
use Rattle.std.proofs.Common.{◌≡◌, ◌≤◌, ◌<◌, ◌+◌, ℕ, true, List, Option, None, length, replicate, sym, ap, ◌∙◌}
use Rattle.exchange_package.specs.Package.{words_of}
use Rattle.relocation.specs.Relocation.{package_fits}
use Rattle.relocation.specs.Saved.{original, IsSaved}
use Rattle.relocation.proofs.Restoring.{original_unsaved, original-overwritten}
use Rattle.relocation.proofs.Saving.{length-original}
use Rattle.sequential.specs.declared.state.State.{State}
use Rattle.sequential.specs.Replay.{boot}
use Rattle.sequential.specs.Swap.{program_entered, package_of, swap}
use Rattle.program_order.specs.Invariant.{IsReplay}
use Rattle.program_order.specs.Processor.{Processor}
use Rattle.program_order.proofs.keeping.Sizes.{boot_size, package_within}

-- the saved words are for a memory of this size
pub saved_size : (w : Processor) (saved : List (Option ℕ)) → IsReplay w → w.boot_memory ≡ original saved w.state.memory
    → length saved ≡ length w.state.memory
saved_size w saved r e =
    sym (length-original saved w.state.memory)
    ∙ ap (λ (l : List ℕ). length l) (sym e)
    ∙ boot_size w r

-- at boot no word is saved
pub unsaved : (memory : List ℕ) (saved : List (Option ℕ)) (size : ℕ) (s : State) → s ≡ boot memory
    → size ≡ length memory → saved ≡ replicate size None → original saved s.memory ≡ memory
unfolding boot
unsaved memory saved size s es n e =
    ap (λ (t : State). original saved t.memory) es
    ∙ ap (λ o. original o memory) (e ∙ ap (λ k. replicate k None) n)
    ∙ original_unsaved memory

-- an exchange that saved its words leaves the boot memory as it was
pub original-swap : (saved : List (Option ℕ)) (s : State) (at : ℕ) → package_fits at (length s.memory) ≡ true
    → ((a : ℕ) → at ≤ a → a < at + 16 → IsSaved saved a) → original saved (swap at s).memory ≡ original saved s.memory
unfolding swap program_entered words_of
original-swap saved s at f h =
    original-overwritten saved s.memory at (words_of (package_of s)) (package_within at (length s.memory) f) h
