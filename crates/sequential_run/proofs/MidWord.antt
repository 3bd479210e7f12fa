-- How long a machine stays in the middle of a word.
use Rattle.std.proofs.Common.{◌≡◌, ◌<◌, ◌-◌, ℕ, true, false, List, [], ◌∷◌}
use Rattle.std.proofs.Common.{Option, Some, None, is_some, refl, sym, ap, subst, ◌∙◌, ltb-true, ltb-false, arith}
use Rattle.std.proofs.lemmas.Bool.{and_parts}
use Rattle.instructions.specs.declared.instr.Instr.{Instr}
use Rattle.instructions.specs.declared.instr.Reg.{Reg}
use Rattle.instructions.specs.declared.refusal.Halt.{Halt}
use Rattle.instruction_table.specs.declared.decoding.Decoded.{Decoded}
use Rattle.instruction_table.specs.declared.decoding.Decoded.TheVariants.{Legal, Refused, Straddle}
use Rattle.instruction_table.specs.Pattern.{parcels_from, used_in, IsByTable, IsReadAs}
use Rattle.instruction_table.proofs.table.ByTable.{by_table}
use Rattle.instruction_table.proofs.table.RoundTrip.{entry_of_row, IsEntryOf}
use Rattle.relocation.specs.declared.area.Access.{Access}
use Rattle.relocation.specs.declared.area.Access.TheVariants.{Load as LoadInto, Store as StoreWord}
use Rattle.sequential.specs.declared.fetching.Fetched.{Fetched}
use Rattle.sequential.specs.declared.fetching.Fetched.TheVariants.{Halting, Passing, Taking}
use Rattle.sequential.specs.declared.position.ProgramPosition.{ProgramPosition}
use Rattle.sequential.specs.declared.state.State.{State}
use Rattle.sequential.specs.declared.work.ProgramReference.{ProgramReference}
use Rattle.sequential.specs.Position.{after_jump, after_parcel}
use Rattle.sequential.specs.Replay.{boot}
use Rattle.sequential.specs.State.{Bounds, absolute, access_at, halt_by, jump_to, move_to, or_fault}
use Rattle.sequential.specs.State.{store_word, write, write_all}
use Rattle.sequential.specs.Step.{at_instruction, classify, do_fetched, do_instruction, fetch, fetched_by, fetched_from}
use Rattle.sequential.specs.Step.{step, step_unless, word_seen}
use Rattle.sequential.specs.Swap.{program_entered, swap}
use Rattle.sequential.specs.Work.{Work, do_work, refer, refer_at, write_and_jump}
use Rattle.sequential_run.specs.Turns.{is_going, is_in_mid_word}

-- ---- what is fetched ----

-- the next parcel is one of 0 to 3, and if a word is held, it is later than this parcel
record IsLater (parcel : ℕ) (position : ProgramPosition) : Type 0 where
  inside : position.parcel < 4
  later : is_some position.held ≡ true → parcel < position.parcel

later_parcel : (p parcel word next : ℕ) → parcel < next → IsLater parcel (after_parcel p word next)
unfolding after_parcel
later_parcel p parcel word next l = grind arith

later_jump : (parcel : ℕ) (position : ProgramPosition) (to : Option ℕ) → IsLater parcel position
    → IsLater parcel (after_jump position to)
unfolding after_jump
later_jump parcel position None h = h
later_jump parcel position (Some to) h = record { inside = omega arith; later = λ e. cc }

-- a legal instruction is followed by a later parcel
abbrev ReadsOn : ℕ → Decoded → Type 0
ReadsOn parcel (Legal i next) = parcel < next
ReadsOn parcel (Refused op) = Unit {0}
ReadsOn parcel Straddle = Unit {0}

-- every instruction has at least one parcel
some_parcel : (i : Instr) (word parcel n : ℕ) → n ≡ 0 → IsReadAs i (parcels_from word parcel n) → ⊥
some_parcel i word parcel n e r =
    subst (IsEntryOf i) (sym r.1 ∙ ap (λ k. used_in i (parcels_from word parcel k)) e) (entry_of_row i r.0)

on_by_table : (word parcel : ℕ) (d : Decoded) → IsByTable word parcel d → ReadsOn parcel d
on_by_table word parcel d t = search (arith, some_parcel, ltb-true, ltb-false)

-- after a fetch that doesn't halt the machine, the next parcel is later
abbrev GoesLater : ℕ → Fetched → Type 0
GoesLater parcel (Halting halt position) = position.parcel < 4
GoesLater parcel (Passing position) = IsLater parcel position
GoesLater parcel (Taking i position) = IsLater parcel position

later_met : (parcel : ℕ) (position next : ProgramPosition) (i : Instr) → position.parcel < 4 → IsLater parcel next
    → GoesLater parcel (classify position next i)
unfolding classify
later_met parcel position next i l h = grind arith

later_read : (p parcel word : ℕ) (d : Decoded) → parcel < 4 → ReadsOn parcel d
    → GoesLater parcel (fetched_by p parcel word d)
unfolding fetched_by
later_read p parcel word (Legal i next) l h = later_met parcel (at_instruction p parcel word)
    (after_parcel p word next) i l (later_parcel p parcel word next h)
later_read p parcel word (Refused op) l h = l
later_read p parcel word Straddle l h = l

later_from : (p parcel : ℕ) (o : Option ℕ) → parcel < 4 → GoesLater parcel (fetched_from p parcel o)
unfolding fetched_from
later_from p parcel o l = grind (arith, later_read, on_by_table, by_table)

later_fetched : (b : Bounds) (memory : List ℕ) (position : ProgramPosition) → position.parcel < 4
    → GoesLater position.parcel (fetch b memory position)
unfolding fetch
later_fetched b memory position l =
    later_from position.p position.parcel (word_seen b memory position.p position.held) l

-- ---- what an instruction does ----

written_place : (s : State) (es : List (Reg × ℕ)) → (write_all s es).position ≡ s.position
unfolding write_all write
written_place s [] = refl
written_place s (e ∷ es) = written_place (write s e.0 e.1) es

accessed_place : (s : State) (a : ℕ) (access : Access) → (access_at s a access).position ≡ s.position
unfolding access_at write store_word
accessed_place s a (LoadInto n) = refl
accessed_place s a (StoreWord w) = refl

referred_at_place : (s : State) (o : Option ℕ) (access : Access) → (refer_at s o access).position ≡ s.position
unfolding refer_at write
referred_at_place s o access = grind (arith, accessed_place)

referred_place : (b : Bounds) (s : State) (o : Option ProgramReference) → (refer b s o).position ≡ s.position
unfolding refer
referred_place b s None = refl
referred_place b s (Some r) = referred_at_place s (absolute b r.address) r.access

worked_position : (b : Bounds) (s : State) (work : Work)
    → (do_work b s work).position ≡ after_jump s.position work.jump
unfolding do_work write_and_jump or_fault jump_to
worked_position b s work = simp (referred_place, written_place)

-- ---- a step ----

-- the next parcel is one of 0 to 3, and in the middle of a word it isn't the first
pub record IsPlaced (s : State) : Type 0 where
  pub inside : s.position.parcel < 4
  pub begun : is_in_mid_word s ≡ true → 0 < s.position.parcel

-- a machine in the middle of a word holds it
holds : (s : State) → is_in_mid_word s ≡ true → is_some s.position.held ≡ true
unfolding is_in_mid_word
holds s h = (and_parts (is_going s) (is_some s.position.held) h).1

-- a halted machine isn't in the middle of a word
halted_out : (s : State) (halt : Halt) → s.halt ≡ Some halt → is_in_mid_word s ≡ true → ⊥
unfolding is_in_mid_word is_going
halted_out s halt e h = cc

-- the next parcel is one of 0 to 3, and in the middle of a word it is later than this parcel
record ComesLater (parcel : ℕ) (s : State) : Type 0 where
  inside : s.position.parcel < 4
  later : is_in_mid_word s ≡ true → parcel < s.position.parcel

comes_later : (parcel : ℕ) (s : State) → IsLater parcel s.position → ComesLater parcel s
comes_later parcel s l = record { inside = l.inside; later = λ h. l.later (holds s h) }

done_later : (b : Bounds) (s : State) (at parcel : ℕ) (g : Fetched) → GoesLater parcel g
    → ComesLater parcel (do_fetched b s at g)
unfolding do_fetched do_instruction halt_by move_to
done_later b s at parcel (Halting halt position) l =
    record { inside = l; later = λ h. absurd (halted_out (do_fetched b s at (Halting halt position)) halt refl h) }
done_later b s at parcel (Passing position) l = comes_later parcel (move_to s position) l
done_later b s at parcel (Taking i position) l = comes_later parcel (do_fetched b s at (Taking i position))
    (subst (IsLater parcel) (sym (worked_position b (move_to s position) _)) (later_jump parcel position _ l))

step_later : (s : State) → s.position.parcel < 4 → ComesLater s.position.parcel (step s)
unfolding step step_unless
step_later s l = grind (arith, halted_out, done_later, later_fetched)

-- a step that leaves the machine in the middle of a word moves it to a later parcel
pub steps_on : (s : State) → IsPlaced s → is_in_mid_word (step s) ≡ true → s.position.parcel < (step s).position.parcel
steps_on s p h = (step_later s p.inside).later h

pub placed_step : (s : State) → IsPlaced s → IsPlaced (step s)
placed_step s p = grind (arith, step_later, steps_on)

-- ---- where a word begins ----

-- after an exchange the machine is at the beginning of a word
pub swapped_out : (n : ℕ) (s : State) → is_in_mid_word (swap n s) ≡ false
unfolding is_in_mid_word is_going swap program_entered
swapped_out n s = refl

pub placed_swap : (n : ℕ) (s : State) → IsPlaced (swap n s)
unfolding is_in_mid_word is_going swap program_entered
placed_swap n s = record { inside = omega arith; begun = λ h. cc }

-- after the boot it is halted
pub booted_out : (memory : List ℕ) → is_in_mid_word (boot memory) ≡ false
unfolding is_in_mid_word is_going boot
booted_out memory = refl

pub placed_boot : (memory : List ℕ) → IsPlaced (boot memory)
unfolding is_in_mid_word is_going boot
placed_boot memory = record { inside = omega arith; begun = λ h. cc }
