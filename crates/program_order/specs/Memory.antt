-- The events of memory: the effects of an acceptance and of a return. Source: Thornton, stunt box; 60100000, central
-- memory. Their refusals are in in_flight/specs/Tests.antt.
use Rattle.std.specs.Prelude.{ℕ, true, [], ◌∷◌, slice_index_or, slice_set}
use Rattle.instructions.specs.declared.instr.Reg.TheVariants.{X}
use Rattle.instructions.specs.Finding.{Found, put_back}
use Rattle.relocation.specs.declared.area.Access.{Access}
use Rattle.relocation.specs.declared.area.Access.TheVariants.{Load, Store as StoreWord}
use Rattle.hopper.specs.Hopper.{bank_of}
use Rattle.sequential.specs.State.{write, store_word}
use Rattle.in_flight.specs.declared.pending.Outstanding.TheVariants.{Accepted}
use Rattle.in_flight.specs.declared.pending.Phase.TheVariants.{After}
use Rattle.in_flight.specs.declared.pending.Pending.{Pending}
use Rattle.hopper.specs.declared.reference.Reference.{Reference}
use Rattle.in_flight.specs.declared.pending.Arrival.{Arrival}
use Rattle.in_flight.specs.Lookup.{in_phase}
use Rattle.program_order.specs.Processor.{Processor}

-- the reference leaves its place and its bank is busy; a load has its word in its channel, and a store has written
-- memory
unfoldable pub after_accept : Processor → Found Pending Reference → ℕ → Access → Processor
after_accept w f a (Load n) = record w {
  pending = put_back f (in_phase f.item (After (Accepted n (slice_index_or w.state.memory a 0))) ∷ []);
  busy = slice_set w.busy (bank_of a) true;
}
after_accept w f a (StoreWord v) =
    record w { state = store_word w.state a v; pending = put_back f []; busy = slice_set w.busy (bank_of a) true }

-- the loaded word is written to its X register
unfoldable pub after_return : Processor → Found Pending Arrival → Processor
after_return w f = record w { state = write w.state (X f.answer.channel) f.answer.word; pending = put_back f [] }
