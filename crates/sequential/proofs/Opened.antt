-- A name for each list of definitions that a proof opens at once.
use Rattle.instructions.specs.Shape.{memory_of}
use Rattle.sequential.specs.Log.{entries_of, issued, run_after, steps_of}
use Rattle.sequential.specs.State.{absolute, access_at, bounds_of, halt_by, move_to, store_word, write}
use Rattle.sequential.specs.Step.{do_fetched, fetch, fetched_from, step, step_unless, word_at, word_seen}
use Rattle.sequential.specs.Work.{address_in, jump_for, number_in, refer_at, reference_for, word_in}

-- the word with the next instruction
unfoldable pub word_to_take : Unit {0}
unfolding word_seen word_at absolute bounds_of
word_to_take = tt

-- a load and a store, in range and out of range
unfoldable pub reference_cases : Unit {0}
unfolding refer_at access_at write store_word
reference_cases = tt

-- the effect of each fetched item
unfoldable pub fetched_cases : Unit {0}
unfolding do_fetched halt_by move_to bounds_of
fetched_cases = tt

-- a step of a halted machine, and a step that fetches
unfoldable pub step_cases : Unit {0}
unfolding step step_unless fetch fetched_from do_fetched halt_by move_to
step_cases = tt

-- an empty list of entries: its steps, their instructions, and the instructions at its end
unfoldable pub no_entries : Unit {0}
unfolding steps_of entries_of issued run_after
no_entries = tt

-- the work of an instruction with its value, and the reference that it makes
unfoldable pub work_of_a_value : Unit {0}
unfolding number_in address_in word_in jump_for reference_for memory_of
work_of_a_value = tt
