-- The refusals of an issue that end a run, and the machines that are at a run's end. Source: ours.
use Rattle.std.specs.Prelude.{Bool, true, false}
use Rattle.instructions.specs.declared.refusal.Refusal.{Refusal}
use Rattle.instructions.specs.declared.refusal.Refusal.TheVariants.{Halted, Faulted, Budget}
use Rattle.program_order.specs.SnapshotView.{Snapped}
use Rattle.sequential_run.specs.Run.{is_over}

-- the refusals of an issue that no event of another thread can resolve: `E1`, `E2` and `E3`
abbrev pub is_end : Refusal → Bool
is_end (Halted halt) = true
is_end Faulted = true
is_end Budget = true
is_end other = false

-- the run of the snapshot's machine is over
abbrev pub is_at_end : Snapped → Bool
is_at_end s = is_over s.state s.log s.budget
