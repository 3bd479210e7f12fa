-- References that needn't keep their order, made in either order.
use Rattle.std.proofs.Common.{◌≡◌, ℕ, false, arith}
use Rattle.std.proofs.lemmas.Bool.{eqb-false}
use Rattle.std.proofs.lemmas.List.{get_or-set_other, set_comm}
use Rattle.relocation.specs.declared.area.Access.{Access}
use Rattle.hopper.specs.Hopper.{is_store, keep_order}
use Rattle.sequential.specs.State.{access_at, store_word, write}
use Rattle.sequential.specs.declared.state.State.{State}
use Rattle.program_order.proofs.effects.Effects.{write_comm}
use Rattle.program_order.specs.EitherOrder.{same_register}

-- two loads write different registers; a store and any other reference are to different words
pub pass_each_other : (s : State) (a : ℕ) (x : Access) (b : ℕ) (y : Access) → keep_order a x b y ≡ false
    → same_register x y ≡ false → access_at (access_at s a x) b y ≡ access_at (access_at s b y) a x
unfolding keep_order is_store same_register access_at write store_word
pass_each_other s a x b y k r = grind (arith, write_comm, get_or-set_other, eqb-false, set_comm)
