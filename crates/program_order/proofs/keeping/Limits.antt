-- Places, channels and banks have valid numbers, and if no word is held, the next parcel is 0.
use Rattle.std.proofs.Common.{◌≡◌, ◌<◌, ◌≤◌, ℕ, zero, suc, Bool, true, false, cond, List, [], ◌∷◌}
use Rattle.std.proofs.Common.{Option, Some, None, length, refl, sym, ap, subst, get_or, arith}
use Rattle.std.specs.Prelude.{not}
use Rattle.std.proofs.lemmas.List.{length-set}
use Rattle.instructions.specs.declared.instr.Instr.{Instr}
use Rattle.instructions.specs.declared.instr.Reg.{Reg}
use Rattle.instructions.specs.declared.instr.Unit.{Unit as FunctionalUnit}
use Rattle.instructions.specs.declared.refusal.Refusal.TheVariants.{Nothing}
use Rattle.instructions.specs.Finding.{Found, seek}
use Rattle.instructions.proofs.Finding.{seek_nobody}
use Rattle.instructions.proofs.Lists.{each_map}
use Rattle.instruction_table.specs.declared.decoding.Decoded.{Decoded}
use Rattle.instruction_table.specs.Decoding.{reading_at}
use Rattle.relocation.specs.declared.area.Access.{Access}
use Rattle.relocation.specs.declared.area.Access.TheVariants.{Load as LoadInto, Store as StoreWord}
use Rattle.sequential.specs.declared.fetching.Fetched.{Fetched}
use Rattle.sequential.specs.declared.fetching.Fetched.TheVariants.{Halting, Passing, Taking}
use Rattle.sequential.specs.declared.position.ProgramPosition.{ProgramPosition}
use Rattle.sequential.specs.declared.state.State.{State}
use Rattle.sequential.specs.Position.{after_jump, after_parcel}
use Rattle.sequential.specs.Replay.{boot}
use Rattle.sequential.specs.State.{Bounds, jump_to, halt_by, or_fault, move_to, store_word, write, write_all}
use Rattle.sequential.specs.Step.{fetch, fetched_by, fetched_from, classify, word_seen}
use Rattle.sequential.specs.Swap.{program_entered, swap}
use Rattle.sequential.specs.Work.{Work, write_and_jump}
use Rattle.hopper.specs.declared.reference.Reference.{Reference}
use Rattle.in_flight.specs.declared.pending.Pending.{Pending}
use Rattle.in_flight.specs.declared.pending.Phase.{Phase}
use Rattle.in_flight.specs.declared.pending.Stage.{Stage}
use Rattle.in_flight.specs.Lookup.{arrival_at, arrival_in, entry_at, entry_in}
use Rattle.in_flight.specs.Tests.{accept_tests, free_tests, nothing, refusal_of, return_tests, tests_found}
use Rattle.in_flight.specs.inner.OwnSlots.{IsPlaced, HasOwnSlots}
use Rattle.program_order.specs.declared.event.Event.{Event}
use Rattle.program_order.specs.declared.event.Event.TheVariants.{Accept, Return, BankFree}
use Rattle.program_order.specs.Events.{after, after_found, allowed, tests_of}
use Rattle.program_order.specs.Exchange.{after_exchange}
use Rattle.program_order.specs.Issue.{after_issue}
use Rattle.program_order.specs.Memory.{after_accept, after_return}
use Rattle.program_order.specs.Peripheral.{after_pp_read, after_pp_write}
use Rattle.program_order.specs.Processor.{Processor, boot_processor}
use Rattle.program_order.specs.Invariant.{IsAtBeginning}
use Rattle.program_order.specs.Units.{after_finish, after_read, after_store, after_work}

-- ---- places and channels ----

entered_below : (size p : ℕ) (u : FunctionalUnit) (q : Phase) → 3 < p → IsPlaced size u q → entry_in p q ≡ None
unfolding entry_in
entered_below size p u q l h = grind arith

arrived_between : (size c : ℕ) (u : FunctionalUnit) (q : Phase) → ((n : ℕ) → 0 < n → n < 6 → n ≡ c → ⊥)
    → IsPlaced size u q → arrival_in c q ≡ None
unfolding arrival_in
arrived_between size c u q l h = grind arith

none_entered_at : (size p : ℕ) (ms : List Pending) → 3 < p → HasOwnSlots size ms → seek (entry_at p) ms ≡ None
unfolding entry_at
none_entered_at size p ms l s = grind (arith, seek_nobody, each_map, entered_below)

none_arrived_at : (size c : ℕ) (ms : List Pending) → ((n : ℕ) → 0 < n → n < 6 → n ≡ c → ⊥) → HasOwnSlots size ms
    → seek (arrival_at c) ms ≡ None
unfolding arrival_at
none_arrived_at size c ms l s = grind (arith, seek_nobody, each_map, arrived_between)

pub no_place : (w : Processor) (size p : ℕ) → HasOwnSlots size w.pending → 3 < p → allowed w (Accept p) ≡ Some Nothing
unfolding allowed tests_of tests_found nothing refusal_of
no_place w size p s l = ap (λ o. refusal_of (tests_found o (λ f. accept_tests w.busy f.earlier f.answer)))
    (none_entered_at size p w.pending l s)

no_channel : (w : Processor) (size c : ℕ) → HasOwnSlots size w.pending → ((n : ℕ) → 0 < n → n < 6 → n ≡ c → ⊥)
    → allowed w (Return c) ≡ Some Nothing
unfolding allowed tests_of tests_found nothing refusal_of
no_channel w size c s l = ap (λ o. refusal_of (tests_found o (λ f. return_tests f.earlier f.answer)))
    (none_arrived_at size c w.pending l s)

pub no_channel_zero : (w : Processor) (size : ℕ) → HasOwnSlots size w.pending → allowed w (Return 0) ≡ Some Nothing
no_channel_zero w size s = no_channel w size 0 s (λ n g l e. omega (arith, g, e))

pub no_channel_above : (w : Processor) (size c : ℕ) → HasOwnSlots size w.pending → 5 < c
    → allowed w (Return c) ≡ Some Nothing
no_channel_above w size c s h = no_channel w size c s (λ n g l e. omega (arith, h, l, e))

-- ---- banks ----

beyond : (busy : List Bool) (k : ℕ) → length busy ≤ k → get_or busy k false ≡ false
beyond [] k h = refl
beyond (b ∷ busy) zero h = absurd (omega (arith, h))
beyond (b ∷ busy) (suc k) h = beyond busy k (omega (arith, h))

pub no_bank : (w : Processor) (k : ℕ) → length w.busy ≡ 32 → 31 < k → allowed w (BankFree k) ≡ Some Nothing
unfolding allowed tests_of free_tests refusal_of
no_bank w k e h = ap (λ b. cond (not b) (Some Nothing) None) (beyond w.busy k (omega (arith, e, h)))

banks_found : {K : Type 0} (w : Processor) (o : Option (Found Pending K)) (f : Found Pending K → Processor)
    → ((x : Found Pending K) → length (f x).busy ≡ length w.busy) → length (after_found w o f).busy ≡ length w.busy
unfolding after_found
banks_found w None f h = refl
banks_found w (Some x) f h = h x

banks_store : (w : Processor) (f : Found Pending Stage) (t : Stage) → length (after_store w f t).busy ≡ length w.busy
unfolding after_store after_work
banks_store w f t = grind arith

banks_accept : (w : Processor) (f : Found Pending Reference) (a : ℕ) (access : Access)
    → length (after_accept w f a access).busy ≡ length w.busy
unfolding after_accept
banks_accept w f a (LoadInto n) = length-set w.busy _ true
banks_accept w f a (StoreWord v) = length-set w.busy _ true

banks_issue : (w : Processor) (g : Fetched) → length (after_issue w g).busy ≡ length w.busy
unfolding after_issue
banks_issue w g = grind arith

banks_exchange : (w : Processor) (o : Option ℕ) → length (after_exchange w o).busy ≡ length w.busy
unfolding after_exchange
banks_exchange w None = refl
banks_exchange w (Some n) = refl

-- an event leaves the number of banks unchanged
pub event_banks : (w : Processor) (e : Event) → length (after w e).busy ≡ length w.busy
unfolding after after_read after_finish after_return after_pp_read after_pp_write
event_banks w e = grind (arith, banks_issue, banks_found, banks_store, banks_accept, banks_exchange, length-set)

pub boot_banks : (memory : List ℕ) (budget : ℕ) → length (boot_processor memory budget).busy ≡ 32
unfolding boot_processor
boot_banks memory budget = refl

-- ---- the place of the next instruction ----

moves_to_beginning : (p word next : ℕ) → IsAtBeginning (after_parcel p word next)
unfolding after_parcel
moves_to_beginning p word next = grind arith

abbrev Begins : Fetched → Type 0
Begins (Halting halt place) = IsAtBeginning place
Begins (Passing place) = IsAtBeginning place
Begins (Taking i place) = IsAtBeginning place

begins_met : (position next : ProgramPosition) (i : Instr) → IsAtBeginning position → IsAtBeginning next
    → Begins (classify position next i)
unfolding classify
begins_met position next i h k = grind arith

begins_read : (p parcel word : ℕ) (d : Decoded) → Begins (fetched_by p parcel word d)
unfolding fetched_by
begins_read p parcel word d = grind (arith, begins_met, moves_to_beginning)

begins_from : (p parcel : ℕ) (o : Option ℕ) → Begins (fetched_from p parcel o)
unfolding fetched_from
begins_from p parcel None = λ e. refl
begins_from p parcel (Some word) = begins_read p parcel word (reading_at word parcel)

begins_fetched : (b : Bounds) (memory : List ℕ) (position : ProgramPosition) → Begins (fetch b memory position)
unfolding fetch
begins_fetched b memory position = begins_from position.p position.parcel (word_seen b memory position.p position.held)

-- if no word is held, the machine is at the beginning of a word
abbrev Starts : Processor → Type 0
Starts w = IsAtBeginning w.state.position

starts_issue : (w : Processor) (g : Fetched) → Begins g → Starts (after_issue w g)
unfolding after_issue halt_by move_to
starts_issue w g h = grind arith

starts_found : {K : Type 0} (w : Processor) (o : Option (Found Pending K)) (f : Found Pending K → Processor)
    → ((x : Found Pending K) → Starts (f x)) → Starts w → Starts (after_found w o f)
unfolding after_found
starts_found w None f h k = k
starts_found w (Some x) f h k = h x

written_position : (s : State) (es : List (Reg × ℕ)) → (write_all s es).position ≡ s.position
unfolding write_all write
written_position s [] = refl
written_position s (e ∷ es) = written_position (write s e.0 e.1) es

starts_gone : (position : ProgramPosition) (to : Option ℕ) → IsAtBeginning position
    → IsAtBeginning (after_jump position to)
unfolding after_jump
starts_gone position None h = h
starts_gone position (Some to) h = λ e. refl

starts_work : (b : Bounds) (s : State) (work : Work) → IsAtBeginning s.position
    → IsAtBeginning (write_and_jump b s work).position
unfolding write_and_jump or_fault jump_to
starts_work b s work h =
    starts_gone (write_all s work.sets).position work.jump (subst IsAtBeginning (sym (written_position s work.sets)) h)

starts_store : (w : Processor) (f : Found Pending Stage) (t : Stage) → Starts w → Starts (after_store w f t)
unfolding after_store after_work
starts_store w f t h = grind (arith, starts_work)

starts_accept : (w : Processor) (f : Found Pending Reference) (a : ℕ) (access : Access) → Starts w
    → Starts (after_accept w f a access)
unfolding after_accept store_word
starts_accept w f a (LoadInto n) h = h
starts_accept w f a (StoreWord v) h = h

starts_exchange : (w : Processor) (o : Option ℕ) → Starts w → Starts (after_exchange w o)
unfolding after_exchange swap program_entered
starts_exchange w None h = h
starts_exchange w (Some n) h = λ e. refl

-- an event that leaves no word held leaves the machine at the beginning of a word
pub event_starts : (w : Processor) (e : Event) → Starts w → Starts (after w e)
unfolding after after_read after_finish after_return after_pp_read after_pp_write write store_word
event_starts w e h =
    grind (arith, starts_issue, begins_fetched, starts_found, starts_store, starts_accept, starts_exchange)

pub boot_starts : (memory : List ℕ) (budget : ℕ) → Starts (boot_processor memory budget)
unfolding boot_processor boot
boot_starts memory budget = λ e. refl
