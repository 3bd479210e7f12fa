-- Consecutive addresses.
use Rattle.std.proofs.Common.{◌≡◌, ℕ, suc, ◌+◌, ◌-◌, ◌<◌, List, ◌++◌, Result, Ok, Err, refl, subst, arith}
use Rattle.std.specs.Prelude.{IsErrAnd}
use Rattle.std.specs.List.{flat_map}
use Rattle.device_text.specs.Putting.{Puts}
use Rattle.device_text.specs.declared.output.Output as output
use Rattle.device_text.specs.declared.output.WriteFailed.{WriteFailed}
use Rattle.device_text.proofs.Putting.{PutsAllBut, puts_piece, puts_piece_cut}
use Rattle.job_deck.specs.Dump.{addresses}

one_address : (f : ℕ → List ℕ) (n m a : ℕ) → n ≡ suc m → flat_map f (addresses n a) ≡ f a
    ++ flat_map f (addresses m (a + 1))
one_address f n m a e = rw e refl

module _ {X : Type 0} (device : output.Ghosts X) where
  pub puts_address : {u : Unit {0}} (f : ℕ → List ℕ) (end a : ℕ) (x y z : X) (all : List ℕ) → a < end
      → PutsAllBut device (flat_map f (addresses (end - a) a)) x y all → Puts device (Ok u) y z (f a)
      → PutsAllBut device (flat_map f (addresses (end - (a + 1)) (a + 1))) x z all
  puts_address f end a x y z all h w p =
      let e : end - a ≡ suc (end - (a + 1)) = omega arith in
      puts_piece device x y z (f a) (flat_map f (addresses (end - (a + 1)) (a + 1))) all
      (subst (λ l. PutsAllBut device l x y all) (one_address f (end - a) (end - (a + 1)) a e) w) p

  pub puts_address_cut : (r : Result (Unit {0}) WriteFailed) (Q : WriteFailed → Type 0) → IsErrAnd r Q
      → {e : WriteFailed} (f : ℕ → List ℕ) (end a : ℕ) (x y z : X) (all : List ℕ) → a < end
      → PutsAllBut device (flat_map f (addresses (end - a) a)) x y all → Puts device (Err e) y z (f a)
      → Puts device r x z all
  puts_address_cut r Q i f end a x y z all h w p =
      let e : end - a ≡ suc (end - (a + 1)) = omega arith in
      puts_piece_cut device r Q i x y z (f a) (flat_map f (addresses (end - (a + 1)) (a + 1))) all
      (subst (λ l. PutsAllBut device l x y all) (one_address f (end - a) (end - (a + 1)) a e) w) p
