-- Decoding at a position agrees with the table, opcode by opcode.
use Rattle.std.proofs.Common.{ℕ, zero, suc, ◌≡◌, ◌≢◌, ◌+◌, ◌-◌, ◌*◌, ◌/◌, ◌%◌, ◌^◌, ◌<◌, List}
use Rattle.std.proofs.Common.{[], ◌∷◌, get_or, length, refl, ap, ◌∙◌, subst, arith}
use Rattle.std.specs.Prelude.{⊤}
use Rattle.std.proofs.lemmas.Bool.{ltb-false}
use Rattle.parcel.specs.Parcels.{parcel_at}
use Rattle.instructions.specs.declared.instr.Instr.TheVariants.{BranchX}
use Rattle.instructions.specs.declared.instr.Op.TheVariants.{Plain, Extended}
use Rattle.instructions.specs.declared.instr.Target.TheVariants.{A as TargetA, B as TargetB, X as TargetX}
use Rattle.instruction_table.specs.declared.decoding.TableEntry.{TableEntry}
use Rattle.instruction_table.specs.declared.decoding.TableEntry.TheVariants.{Short, Long, Refused}
use Rattle.instruction_table.specs.Decoding.{x_test_at, entry, extended, branches, logicals, shifts, additions, others}
use Rattle.instruction_table.specs.Decoding.{increments, rows, entry_of, following_at, reading_at}
use Rattle.instruction_table.specs.Opcode.{op_at}
use Rattle.instruction_table.specs.Pattern.{IsReadAs, IsByTable}
use Rattle.instruction_table.proofs.table.RoundTrip.{no_code}

-- an entry's claim about the parcels that it is decoded from
abbrev Agrees : ℕ → ℕ → TableEntry → Type 0
Agrees p q (Short instr) = IsReadAs instr (p ∷ [])
Agrees p q (Long instr) = IsReadAs instr (p ∷ q ∷ [])
Agrees p q (Refused op) = op ≡ op_at p

-- the parcel with a code and the digits i, j and k
abbrev parcel : ℕ → ℕ → ℕ → ℕ → ℕ
parcel c i j k = ((c * 8 + i) * 8 + j) * 8 + k

one : (a b : ℕ) → a ≡ b → a ∷ [] ≡ b ∷ []
one a b e = ap (λ n. n ∷ []) e

two : (a b c d : ℕ) → a ≡ b → c ≡ d → a ∷ c ∷ [] ≡ b ∷ d ∷ []
two a b c d e f = ap (λ n. n ∷ c ∷ []) e ∙ ap (λ n. b ∷ n ∷ []) f

infixr 5 ◌also◌
◌also◌ : {P Q : Type 0} → P → Q → P × Q
p also q = (p, q)

-- ---- a row of entries ----

-- each entry agrees with the parcel of its index
abbrev AgreeFrom : (ℕ → ℕ) → ℕ → ℕ → List TableEntry → Type 0
AgreeFrom g n q [] = ⊤
AgreeFrom g n q (e ∷ es) = Agrees (g n) q e × AgreeFrom g (suc n) q es

agrees_at : (g : ℕ → ℕ) (es : List TableEntry) (c n m q : ℕ) → n ≡ c + m → m < length es → AgreeFrom g c q es
    → Agrees (g n) q (entry es m)
agrees_at g [] c n m q h l a = absurd (omega (arith, l))
agrees_at g (e ∷ es) c n zero q h l a = subst (λ x. Agrees (g x) q e) (omega (arith, h)) a.0
agrees_at g (e ∷ es) c n (suc m) q h l a = agrees_at g es (suc c) n m q (omega (arith, h)) (omega (arith, l)) a.1

-- the same for several rows of eight entries
abbrev AgreeRows : (ℕ → ℕ) → ℕ → ℕ → List (List TableEntry) → Type 0
AgreeRows g n q [] = ⊤
AgreeRows g n q (row ∷ rs) = ((length row ≡ 8) × AgreeFrom g n q row) × AgreeRows g (n + 8) q rs

agrees_in : (g : ℕ → ℕ) (rs : List (List TableEntry)) (c n f m q : ℕ) → n ≡ c + (8 * f + m) → f < length rs → m < 8
    → AgreeRows g c q rs → Agrees (g n) q (entry (get_or rs f []) m)
agrees_in g [] c n f m q h l k a = absurd (omega (arith, l))
agrees_in g (row ∷ rs) c n zero m q h l k a =
    let d : length row ≡ 8 = a.0.0 in agrees_at g row c n m q (omega (arith, h)) (omega (arith, k, d)) a.0.1
agrees_in g (row ∷ rs) c n (suc f) m q h l k a =
    agrees_in g rs (c + 8) n f m q (omega (arith, h)) (omega (arith, l)) k a.1

-- ---- each opcode ----

abbrev all_rows : ℕ → ℕ → ℕ → ℕ → List (List TableEntry)
all_rows i j k K =
    branches i j K
    ∷ logicals i j k
    ∷ shifts i j k
    ∷ additions i j k
    ∷ others i j k
    ∷ increments TargetA i j k K
    ∷ increments TargetB i j k K
    ∷ increments TargetX i j k K
    ∷ []

plain_op : (c i j k : ℕ) → c < 64 → i < 8 → j < 8 → k < 8 → c ≢ 1 → c ≢ 3
    → Plain (c / 8) (c % 8) ≡ op_at (parcel c i j k)
plain_op c i j k hc hi hj hk h1 h3 = grind arith

op_01 : (i j k : ℕ) → i < 8 → j < 8 → k < 8 → Extended 0 1 i ≡ op_at (parcel 1 i j k)
op_01 i j k hi hj hk = grind arith

module _ (i j k q K : ℕ) (hi : i < 8) (hj : j < 8) (hk : k < 8) (hq : q < 2 ^ 15) (e : K ≡ k * 2 ^ 15 + q) where
  wide : K < 2 ^ 18
  wide = omega (arith, hk, hq, e)

  -- two parcels in which every field is used
  both : (p : ℕ) → (p * 8 + k) ∷ q ∷ [] ≡ (p * 8 + K / 2 ^ 15) ∷ (K % 2 ^ 15) ∷ []
  both p = two _ _ _ _ (omega (arith, hk, hq, e)) (omega (arith, hk, hq, e))

  return_jumps : AgreeFrom (λ n. parcel 1 n j k) 0 q (extended K)
  return_jumps =
      (wide, two _ _ _ _ (omega (arith, hj, hk, hq, e)) (omega (arith, hk, hq, e)))
      also (op_01 1 j k (omega arith) hj hk)
      also (op_01 2 j k (omega arith) hj hk)
      also (op_01 3 j k (omega arith) hj hk)
      also (op_01 4 j k (omega arith) hj hk)
      also (op_01 5 j k (omega arith) hj hk)
      also (op_01 6 j k (omega arith) hj hk)
      also (op_01 7 j k (omega arith) hj hk)
      also tt

  tests : (n : ℕ) → n < 8 → Agrees (parcel 3 n j k) q (Long (BranchX (x_test_at n) j K))
  tests zero l = ((hj, wide), both _)
  tests (suc zero) l = ((hj, wide), both _)
  tests (suc (suc zero)) l = ((hj, wide), both _)
  tests (suc (suc (suc zero))) l = ((hj, wide), both _)
  tests (suc (suc (suc (suc zero)))) l = ((hj, wide), both _)
  tests (suc (suc (suc (suc (suc zero))))) l = ((hj, wide), both _)
  tests (suc (suc (suc (suc (suc (suc zero)))))) l = ((hj, wide), both _)
  tests (suc (suc (suc (suc (suc (suc (suc zero))))))) l = ((hj, wide), both _)
  tests (suc (suc (suc (suc (suc (suc (suc (suc n)))))))) l = absurd (omega (arith, l))

  small : 8 * j + k < 64
  small = omega (arith, hj, hk)

  -- one parcel in which the digits j and k are a count
  count : (p : ℕ) → ((p * 8 + j) * 8 + k) ∷ [] ≡ ((p * 8 + (8 * j + k) / 8) * 8 + (8 * j + k) % 8) ∷ []
  count p = one _ _ (omega (arith, hj, hk))

  branch_row : AgreeFrom (λ c. parcel c i j k) 0 q (branches i j K)
  branch_row =
      (tt, one _ _ (omega (arith, hi, hj, hk)))
      also (agrees_at (λ n. parcel 1 n j k) (extended K) 0 i i q (omega arith) hi return_jumps)
      also ((hi, wide), two _ _ _ _ (omega (arith, hi, hj, hk, hq, e)) (omega (arith, hk, hq, e)))
      also tests i hi
      also ((hi, hj, wide), both _)
      also ((hi, hj, wide), both _)
      also ((hi, hj, wide), both _)
      also ((hi, hj, wide), both _)
      also tt

  logical_row : AgreeFrom (λ c. parcel c i j k) 8 q (logicals i j k)
  logical_row =
      ((hi, hj), one _ _ (omega (arith, hi, hj, hk)))
      also ((hi, hj, hk), refl)
      also ((hi, hj, hk), refl)
      also ((hi, hj, hk), refl)
      also ((hi, hk), one _ _ (omega (arith, hi, hj, hk)))
      also ((hi, hj, hk), refl)
      also ((hi, hj, hk), refl)
      also ((hi, hj, hk), refl)
      also tt

  shift_row : AgreeFrom (λ c. parcel c i j k) 16 q (shifts i j k)
  shift_row =
      ((hi, small), count _)
      also ((hi, small), count _)
      also ((hi, hj, hk), refl)
      also ((hi, hj, hk), refl)
      also (plain_op 20 i j k (omega arith) hi hj hk (omega arith) (omega arith))
      also (plain_op 21 i j k (omega arith) hi hj hk (omega arith) (omega arith))
      also (plain_op 22 i j k (omega arith) hi hj hk (omega arith) (omega arith))
      also (plain_op 23 i j k (omega arith) hi hj hk (omega arith) (omega arith))
      also tt

  addition_row : AgreeFrom (λ c. parcel c i j k) 24 q (additions i j k)
  addition_row =
      (plain_op 24 i j k (omega arith) hi hj hk (omega arith) (omega arith))
      also (plain_op 25 i j k (omega arith) hi hj hk (omega arith) (omega arith))
      also (plain_op 26 i j k (omega arith) hi hj hk (omega arith) (omega arith))
      also (plain_op 27 i j k (omega arith) hi hj hk (omega arith) (omega arith))
      also (plain_op 28 i j k (omega arith) hi hj hk (omega arith) (omega arith))
      also (plain_op 29 i j k (omega arith) hi hj hk (omega arith) (omega arith))
      also ((hi, hj, hk), refl)
      also ((hi, hj, hk), refl)
      also tt

  other_row : AgreeFrom (λ c. parcel c i j k) 32 q (others i j k)
  other_row =
      (plain_op 32 i j k (omega arith) hi hj hk (omega arith) (omega arith))
      also (plain_op 33 i j k (omega arith) hi hj hk (omega arith) (omega arith))
      also (plain_op 34 i j k (omega arith) hi hj hk (omega arith) (omega arith))
      also ((hi, small), count _)
      also (plain_op 36 i j k (omega arith) hi hj hk (omega arith) (omega arith))
      also (plain_op 37 i j k (omega arith) hi hj hk (omega arith) (omega arith))
      also (tt, one _ _ (omega (arith, hi, hj, hk)))
      also ((hi, hk), one _ _ (omega (arith, hi, hj, hk)))
      also tt

  a_row : AgreeFrom (λ c. parcel c i j k) 40 q (increments TargetA i j k K)
  a_row =
      ((hi, (hj, wide)), both _)
      also ((hi, (hj, wide)), both _)
      also ((hi, (hj, wide)), both _)
      also ((hi, (hj, hk)), refl)
      also ((hi, (hj, hk)), refl)
      also ((hi, (hj, hk)), refl)
      also ((hi, (hj, hk)), refl)
      also ((hi, (hj, hk)), refl)
      also tt

  b_row : AgreeFrom (λ c. parcel c i j k) 48 q (increments TargetB i j k K)
  b_row =
      ((hi, (hj, wide)), both _)
      also ((hi, (hj, wide)), both _)
      also ((hi, (hj, wide)), both _)
      also ((hi, (hj, hk)), refl)
      also ((hi, (hj, hk)), refl)
      also ((hi, (hj, hk)), refl)
      also ((hi, (hj, hk)), refl)
      also ((hi, (hj, hk)), refl)
      also tt

  x_row : AgreeFrom (λ c. parcel c i j k) 56 q (increments TargetX i j k K)
  x_row =
      ((hi, (hj, wide)), both _)
      also ((hi, (hj, wide)), both _)
      also ((hi, (hj, wide)), both _)
      also ((hi, (hj, hk)), refl)
      also ((hi, (hj, hk)), refl)
      also ((hi, (hj, hk)), refl)
      also ((hi, (hj, hk)), refl)
      also ((hi, (hj, hk)), refl)
      also tt

  table : AgreeRows (λ c. parcel c i j k) 0 q (all_rows i j k K)
  table =
      (refl, branch_row)
      also (refl, logical_row)
      also (refl, shift_row)
      also (refl, addition_row)
      also (refl, other_row)
      also (refl, a_row)
      also (refl, b_row)
      also (refl, x_row)
      also tt

pub entry_agrees : (p q : ℕ) → p < 2 ^ 15 → q < 2 ^ 15 → Agrees p q (entry_of p q)
unfolding entry_of
entry_agrees p q hp hq =
    let again : parcel (p / 2 ^ 9) (p / 2 ^ 6 % 8) (p / 2 ^ 3 % 8) (p % 8) ≡ p = omega (arith, hp) in
    subst (λ x. Agrees x q (entry (rows (p / 2 ^ 12) (p / 2 ^ 6 % 8) (p / 2 ^ 3 % 8) (p % 8) (p % 8 * 2 ^ 15 + q))
    (p / 2 ^ 9 % 8))) again
    (agrees_in (λ c. parcel c (p / 2 ^ 6 % 8) (p / 2 ^ 3 % 8) (p % 8))
    (all_rows (p / 2 ^ 6 % 8) (p / 2 ^ 3 % 8) (p % 8) (p % 8 * 2 ^ 15 + q)) 0 (p / 2 ^ 9) (p / 2 ^ 12)
    (p / 2 ^ 9 % 8) q (omega (arith, hp)) (omega (arith, hp)) (omega arith)
    (table (p / 2 ^ 6 % 8) (p / 2 ^ 3 % 8) (p % 8) q (p % 8 * 2 ^ 15 + q) (omega arith) (omega arith) (omega arith) hq
    refl))

-- ---- in a word ----

parcel_small : (word position : ℕ) → parcel_at word position < 2 ^ 15
unfolding parcel_at
parcel_small word position = omega arith

following_small : (word position : ℕ) → following_at word position < 2 ^ 15
following_small word position = grind (arith, parcel_small)

pub by_table : (word position : ℕ) → position < 4 → IsByTable word position (reading_at word position)
unfolding reading_at
by_table word position l = grind (arith, entry_agrees, parcel_small, following_small, no_code, ltb-false)
