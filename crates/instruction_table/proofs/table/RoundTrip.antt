-- An instruction in a word is decoded as that instruction, whatever its unused fields hold.
use Rattle.std.proofs.Common.{ℕ, zero, suc, ◌≡◌, ◌+◌, ◌*◌, ◌/◌, ◌%◌, ◌^◌, ◌<◌, ◌≤◌, List, [], ◌∷◌, Some, None}
use Rattle.std.proofs.Common.{length, refl, sym, ap, ◌∙◌, arith}
use Rattle.instructions.specs.declared.instr.Instr.{Instr}
use Rattle.instructions.specs.declared.instr.Instr.TheVariants.{Stop, Pass, ReturnJump, Jump, BranchX, BranchB, Copy}
use Rattle.instructions.specs.declared.instr.Instr.TheVariants.{Invert, Logical, ShiftBy, ShiftNominal, LongAdd, Mask}
use Rattle.instructions.specs.declared.instr.Instr.TheVariants.{CountOnes, Increment}
use Rattle.instructions.specs.declared.instr.XTest.TheVariants.{Zero, NonZero, Positive, Negative, InRange, OutOfRange}
use Rattle.instructions.specs.declared.instr.XTest.TheVariants.{Definite, Indefinite}
use Rattle.instructions.specs.declared.instr.BTest.TheVariants.{Equal, NotEqual, GreaterOrEqual, Less}
use Rattle.instructions.specs.declared.instr.Logic.TheVariants.{And, Or, Xor, AndNot, OrNot, XorNot}
use Rattle.instructions.specs.declared.instr.Direction.TheVariants.{Left, Right}
use Rattle.instructions.specs.declared.instr.Addition.TheVariants.{Sum, Difference}
use Rattle.instructions.specs.declared.instr.Target.TheVariants.{A as TargetA, B as TargetB, X as TargetX}
use Rattle.instructions.specs.declared.instr.Base.TheVariants.{A, B, X}
use Rattle.instructions.specs.declared.instr.Pair.TheVariants.{XPlusB, APlusB, AMinusB, BPlusB, BMinusB}
use Rattle.instructions.specs.declared.instr.Addends.TheVariants.{Address, Registers}
use Rattle.instruction_table.specs.declared.decoding.Decoded.TheVariants.{Legal}
use Rattle.instruction_table.specs.declared.decoding.TableEntry.TheVariants.{Short, Long, Refused}
use Rattle.instructions.specs.declared.instr.Op.{Op}
use Rattle.instruction_table.specs.Decoding.{entry, rows, entry_of, following_at, reading_at}
use Rattle.instruction_table.specs.Table.{parcels_of, IsInstr, StandsAt}
use Rattle.instruction_table.specs.Opcode.{first_parcel, op_at, op_of}
use Rattle.instruction_table.specs.Pattern.{used_fields, used_in, parcels_from, IsReadAs, IsNoCode}
use Rattle.parcel.specs.Parcels.{parcel_at}
use Rattle.instruction_table.proofs.table.Refusals.{refused_op, refusal_of, refusal_by_code}
use Rattle.instruction_table.proofs.table.DecodingLaws.{entry_known}

-- an entry of one parcel, whatever comes after it
short_entry : (instr : Instr) (c i j k p q : ℕ) → c < 64 → i < 8 → j < 8 → k < 8 → p ≡ ((c * 8 + i) * 8 + j) * 8 + k
    → ((K : ℕ) → Short instr ≡ entry (rows (c / 8) i j k K) (c % 8)) → entry_of p q ≡ Short instr
short_entry instr c i j k p q hc hi hj hk e row =
    sym (entry_known p q (c / 8) (c % 8) i j k (p % 8 * 2 ^ 15 + q) (Short instr) (omega (arith, hc, hi, hj, hk, e))
    (omega (arith, hc, hi, hj, hk, e)) (omega (arith, hi, hj, hk, e)) (omega (arith, hj, hk, e))
    (omega (arith, hk, e)) refl (row (p % 8 * 2 ^ 15 + q)))

-- an entry of two parcels
long_entry : (instr : Instr) (c i j K p : ℕ) → c < 64 → i < 8 → j < 8 → K < 2 ^ 18
    → p ≡ ((c * 8 + i) * 8 + j) * 8 + K / 2 ^ 15 → ((k : ℕ) → Long instr ≡ entry (rows (c / 8) i j k K) (c % 8))
    → entry_of p (K % 2 ^ 15) ≡ Long instr
long_entry instr c i j K p hc hi hj hK e row =
    sym (entry_known p (K % 2 ^ 15) (c / 8) (c % 8) i j (K / 2 ^ 15) K (Long instr) (omega (arith, hc, hi, hj, hK, e))
    (omega (arith, hc, hi, hj, hK, e)) (omega (arith, hi, hj, hK, e)) (omega (arith, hj, hK, e))
    (omega (arith, hK, e)) (omega (arith, hK, e)) (row (K / 2 ^ 15)))

-- a count is its two digits
jk_again : (jk : ℕ) → 8 * (jk / 8) + jk % 8 ≡ jk
jk_again jk = omega arith

-- each first parcel that agrees with a row's parcel is decoded as its instruction
abbrev pub IsEntryOf : Instr → List ℕ → Type 0
IsEntryOf instr [] = ⊥
IsEntryOf instr (first ∷ []) = (p q : ℕ) → used_fields instr p ≡ first → entry_of p q ≡ Short instr
IsEntryOf instr (first ∷ q ∷ []) = (p : ℕ) → used_fields instr p ≡ first → entry_of p q ≡ Long instr
IsEntryOf instr (first ∷ q ∷ r ∷ ps) = ⊥

-- row by row: its code, its fields, and the table's entry for its opcode
pub entry_of_row : (instr : Instr) → IsInstr instr → IsEntryOf instr (parcels_of instr)
entry_of_row (Stop) r = λ p q e. short_entry (Stop) 0 (p / 8 ^ 2 % 8) (p / 8 % 8) (p % 8) p q (omega arith)
    (omega arith) (omega arith) (omega arith) (omega (arith, e)) (λ _. refl)
entry_of_row (Pass) r = λ p q e. short_entry (Pass) 38 (p / 8 ^ 2 % 8) (p / 8 % 8) (p % 8) p q (omega arith)
    (omega arith) (omega arith) (omega arith) (omega (arith, e)) (λ _. refl)
entry_of_row (ReturnJump K) r =
    λ p e. long_entry (ReturnJump K) 1 0 (p / 8 % 8) K p (omega arith) (omega arith) (omega arith) r (omega (arith, e))
    (λ _. refl)
entry_of_row (Jump i K) r =
    λ p e. long_entry (Jump i K) 2 i (p / 8 % 8) K p (omega arith) r.0 (omega arith) r.1 (omega (arith, e)) (λ _. refl)
entry_of_row (BranchX Zero j K) r =
    λ p e. long_entry (BranchX Zero j K) 3 0 j K p (omega arith) (omega arith) r.0 r.1 e (λ _. refl)
entry_of_row (BranchX NonZero j K) r =
    λ p e. long_entry (BranchX NonZero j K) 3 1 j K p (omega arith) (omega arith) r.0 r.1 e (λ _. refl)
entry_of_row (BranchX Positive j K) r =
    λ p e. long_entry (BranchX Positive j K) 3 2 j K p (omega arith) (omega arith) r.0 r.1 e (λ _. refl)
entry_of_row (BranchX Negative j K) r =
    λ p e. long_entry (BranchX Negative j K) 3 3 j K p (omega arith) (omega arith) r.0 r.1 e (λ _. refl)
entry_of_row (BranchX InRange j K) r =
    λ p e. long_entry (BranchX InRange j K) 3 4 j K p (omega arith) (omega arith) r.0 r.1 e (λ _. refl)
entry_of_row (BranchX OutOfRange j K) r =
    λ p e. long_entry (BranchX OutOfRange j K) 3 5 j K p (omega arith) (omega arith) r.0 r.1 e (λ _. refl)
entry_of_row (BranchX Definite j K) r =
    λ p e. long_entry (BranchX Definite j K) 3 6 j K p (omega arith) (omega arith) r.0 r.1 e (λ _. refl)
entry_of_row (BranchX Indefinite j K) r =
    λ p e. long_entry (BranchX Indefinite j K) 3 7 j K p (omega arith) (omega arith) r.0 r.1 e (λ _. refl)
entry_of_row (BranchB Equal i j K) r =
    λ p e. long_entry (BranchB Equal i j K) 4 i j K p (omega arith) r.0 r.1 r.2 e (λ _. refl)
entry_of_row (BranchB NotEqual i j K) r =
    λ p e. long_entry (BranchB NotEqual i j K) 5 i j K p (omega arith) r.0 r.1 r.2 e (λ _. refl)
entry_of_row (BranchB GreaterOrEqual i j K) r =
    λ p e. long_entry (BranchB GreaterOrEqual i j K) 6 i j K p (omega arith) r.0 r.1 r.2 e (λ _. refl)
entry_of_row (BranchB Less i j K) r =
    λ p e. long_entry (BranchB Less i j K) 7 i j K p (omega arith) r.0 r.1 r.2 e (λ _. refl)
entry_of_row (Copy i j) r =
    λ p q e. short_entry (Copy i j) 8 i j (p % 8) p q (omega arith) r.0 r.1 (omega arith) (omega (arith, e)) (λ _. refl)
entry_of_row (Invert i k) r =
    λ p q e. short_entry (Invert i k) 12 i (p / 8 % 8) k p q (omega arith) r.0 (omega arith) r.1 (omega (arith, e))
    (λ _. refl)
entry_of_row (Logical And i j k) r =
    λ p q e. short_entry (Logical And i j k) 9 i j k p q (omega arith) r.0 r.1 r.2 e (λ _. refl)
entry_of_row (Logical Or i j k) r =
    λ p q e. short_entry (Logical Or i j k) 10 i j k p q (omega arith) r.0 r.1 r.2 e (λ _. refl)
entry_of_row (Logical Xor i j k) r =
    λ p q e. short_entry (Logical Xor i j k) 11 i j k p q (omega arith) r.0 r.1 r.2 e (λ _. refl)
entry_of_row (Logical AndNot i j k) r =
    λ p q e. short_entry (Logical AndNot i j k) 13 i j k p q (omega arith) r.0 r.1 r.2 e (λ _. refl)
entry_of_row (Logical OrNot i j k) r =
    λ p q e. short_entry (Logical OrNot i j k) 14 i j k p q (omega arith) r.0 r.1 r.2 e (λ _. refl)
entry_of_row (Logical XorNot i j k) r =
    λ p q e. short_entry (Logical XorNot i j k) 15 i j k p q (omega arith) r.0 r.1 r.2 e (λ _. refl)
entry_of_row (ShiftBy Left i jk) r =
    λ p q e. short_entry (ShiftBy Left i jk) 16 i (jk / 8) (jk % 8) p q (omega arith) r.0 (let h = r.1 in omega arith)
    (omega arith) e (λ _. ap (λ n. Short (ShiftBy Left i n)) (sym (jk_again jk)))
entry_of_row (ShiftBy Right i jk) r =
    λ p q e. short_entry (ShiftBy Right i jk) 17 i (jk / 8) (jk % 8) p q (omega arith) r.0 (let h = r.1 in omega arith)
    (omega arith) e (λ _. ap (λ n. Short (ShiftBy Right i n)) (sym (jk_again jk)))
entry_of_row (ShiftNominal Left i j k) r =
    λ p q e. short_entry (ShiftNominal Left i j k) 18 i j k p q (omega arith) r.0 r.1 r.2 e (λ _. refl)
entry_of_row (ShiftNominal Right i j k) r =
    λ p q e. short_entry (ShiftNominal Right i j k) 19 i j k p q (omega arith) r.0 r.1 r.2 e (λ _. refl)
entry_of_row (LongAdd Sum i j k) r =
    λ p q e. short_entry (LongAdd Sum i j k) 30 i j k p q (omega arith) r.0 r.1 r.2 e (λ _. refl)
entry_of_row (LongAdd Difference i j k) r =
    λ p q e. short_entry (LongAdd Difference i j k) 31 i j k p q (omega arith) r.0 r.1 r.2 e (λ _. refl)
entry_of_row (Mask i jk) r = λ p q e. short_entry (Mask i jk) 35 i (jk / 8) (jk % 8) p q (omega arith) r.0
    (let h = r.1 in omega arith) (omega arith) e (λ _. ap (λ n. Short (Mask i n)) (sym (jk_again jk)))
entry_of_row (CountOnes i k) r =
    λ p q e. short_entry (CountOnes i k) 39 i (p / 8 % 8) k p q (omega arith) r.0 (omega arith) r.1 (omega (arith, e))
    (λ _. refl)
entry_of_row (Increment TargetA i (Address A j K)) r =
    λ p e. long_entry (Increment TargetA i (Address A j K)) 40 i j K p (omega arith) r.0 r.1.0 r.1.1 e (λ _. refl)
entry_of_row (Increment TargetA i (Address B j K)) r =
    λ p e. long_entry (Increment TargetA i (Address B j K)) 41 i j K p (omega arith) r.0 r.1.0 r.1.1 e (λ _. refl)
entry_of_row (Increment TargetA i (Address X j K)) r =
    λ p e. long_entry (Increment TargetA i (Address X j K)) 42 i j K p (omega arith) r.0 r.1.0 r.1.1 e (λ _. refl)
entry_of_row (Increment TargetA i (Registers XPlusB j k)) r =
    λ p q e. short_entry (Increment TargetA i (Registers XPlusB j k)) 43 i j k p q (omega arith) r.0 r.1.0 r.1.1 e
    (λ _. refl)
entry_of_row (Increment TargetA i (Registers APlusB j k)) r =
    λ p q e. short_entry (Increment TargetA i (Registers APlusB j k)) 44 i j k p q (omega arith) r.0 r.1.0 r.1.1 e
    (λ _. refl)
entry_of_row (Increment TargetA i (Registers AMinusB j k)) r =
    λ p q e. short_entry (Increment TargetA i (Registers AMinusB j k)) 45 i j k p q (omega arith) r.0 r.1.0 r.1.1 e
    (λ _. refl)
entry_of_row (Increment TargetA i (Registers BPlusB j k)) r =
    λ p q e. short_entry (Increment TargetA i (Registers BPlusB j k)) 46 i j k p q (omega arith) r.0 r.1.0 r.1.1 e
    (λ _. refl)
entry_of_row (Increment TargetA i (Registers BMinusB j k)) r =
    λ p q e. short_entry (Increment TargetA i (Registers BMinusB j k)) 47 i j k p q (omega arith) r.0 r.1.0 r.1.1 e
    (λ _. refl)
entry_of_row (Increment TargetB i (Address A j K)) r =
    λ p e. long_entry (Increment TargetB i (Address A j K)) 48 i j K p (omega arith) r.0 r.1.0 r.1.1 e (λ _. refl)
entry_of_row (Increment TargetB i (Address B j K)) r =
    λ p e. long_entry (Increment TargetB i (Address B j K)) 49 i j K p (omega arith) r.0 r.1.0 r.1.1 e (λ _. refl)
entry_of_row (Increment TargetB i (Address X j K)) r =
    λ p e. long_entry (Increment TargetB i (Address X j K)) 50 i j K p (omega arith) r.0 r.1.0 r.1.1 e (λ _. refl)
entry_of_row (Increment TargetB i (Registers XPlusB j k)) r =
    λ p q e. short_entry (Increment TargetB i (Registers XPlusB j k)) 51 i j k p q (omega arith) r.0 r.1.0 r.1.1 e
    (λ _. refl)
entry_of_row (Increment TargetB i (Registers APlusB j k)) r =
    λ p q e. short_entry (Increment TargetB i (Registers APlusB j k)) 52 i j k p q (omega arith) r.0 r.1.0 r.1.1 e
    (λ _. refl)
entry_of_row (Increment TargetB i (Registers AMinusB j k)) r =
    λ p q e. short_entry (Increment TargetB i (Registers AMinusB j k)) 53 i j k p q (omega arith) r.0 r.1.0 r.1.1 e
    (λ _. refl)
entry_of_row (Increment TargetB i (Registers BPlusB j k)) r =
    λ p q e. short_entry (Increment TargetB i (Registers BPlusB j k)) 54 i j k p q (omega arith) r.0 r.1.0 r.1.1 e
    (λ _. refl)
entry_of_row (Increment TargetB i (Registers BMinusB j k)) r =
    λ p q e. short_entry (Increment TargetB i (Registers BMinusB j k)) 55 i j k p q (omega arith) r.0 r.1.0 r.1.1 e
    (λ _. refl)
entry_of_row (Increment TargetX i (Address A j K)) r =
    λ p e. long_entry (Increment TargetX i (Address A j K)) 56 i j K p (omega arith) r.0 r.1.0 r.1.1 e (λ _. refl)
entry_of_row (Increment TargetX i (Address B j K)) r =
    λ p e. long_entry (Increment TargetX i (Address B j K)) 57 i j K p (omega arith) r.0 r.1.0 r.1.1 e (λ _. refl)
entry_of_row (Increment TargetX i (Address X j K)) r =
    λ p e. long_entry (Increment TargetX i (Address X j K)) 58 i j K p (omega arith) r.0 r.1.0 r.1.1 e (λ _. refl)
entry_of_row (Increment TargetX i (Registers XPlusB j k)) r =
    λ p q e. short_entry (Increment TargetX i (Registers XPlusB j k)) 59 i j k p q (omega arith) r.0 r.1.0 r.1.1 e
    (λ _. refl)
entry_of_row (Increment TargetX i (Registers APlusB j k)) r =
    λ p q e. short_entry (Increment TargetX i (Registers APlusB j k)) 60 i j k p q (omega arith) r.0 r.1.0 r.1.1 e
    (λ _. refl)
entry_of_row (Increment TargetX i (Registers AMinusB j k)) r =
    λ p q e. short_entry (Increment TargetX i (Registers AMinusB j k)) 61 i j k p q (omega arith) r.0 r.1.0 r.1.1 e
    (λ _. refl)
entry_of_row (Increment TargetX i (Registers BPlusB j k)) r =
    λ p q e. short_entry (Increment TargetX i (Registers BPlusB j k)) 62 i j k p q (omega arith) r.0 r.1.0 r.1.1 e
    (λ _. refl)
entry_of_row (Increment TargetX i (Registers BMinusB j k)) r =
    λ p q e. short_entry (Increment TargetX i (Registers BMinusB j k)) 63 i j k p q (omega arith) r.0 r.1.0 r.1.1 e
    (λ _. refl)

-- in its row, the unused fields of an instruction are zeros
row_again : (instr : Instr) → IsInstr instr
    → used_fields instr (first_parcel (parcels_of instr)) ≡ first_parcel (parcels_of instr)
row_again instr r = grind arith

-- ---- in a word ----

-- an instruction of two parcels before the last position
long_here : (instr : Instr) (word position : ℕ) → position < 3
    → entry_of (parcel_at word position) (parcel_at word (position + 1)) ≡ Long instr
    → reading_at word position ≡ Legal instr (position + 2)
unfolding reading_at
long_here instr word position below h = grind arith

short_here : (instr : Instr) (word position : ℕ) → entry_of (parcel_at word position) (following_at word position)
    ≡ Short instr
    → reading_at word position ≡ Legal instr (position + 1)
unfolding reading_at
short_here instr word position h = rw h refl

-- decoding where an instruction's pattern is
pub reading_of_pattern : (instr : Instr) (word position n : ℕ) → position + n ≤ 4
    → IsReadAs instr (parcels_from word position n) → reading_at word position ≡ Legal instr (position + n)
reading_of_pattern instr word position n within h = by_row (parcels_of instr) (entry_of_row instr h.0) n within h.1
  where
    by_row : (ps : List ℕ) → IsEntryOf instr ps → (n : ℕ) → position + n ≤ 4
        → used_in instr (parcels_from word position n) ≡ ps → reading_at word position ≡ Legal instr (position + n)
    by_row [] k n l e = absurd k
    by_row (p ∷ []) k zero l e = cc
    by_row (p ∷ []) k (suc zero) l e =
        short_here instr word position (grind arith)
    by_row (p ∷ []) k (suc (suc n)) l e = cc
    by_row (p ∷ q ∷ []) k zero l e = cc
    by_row (p ∷ q ∷ []) k (suc zero) l e = cc
    by_row (p ∷ q ∷ []) k (suc (suc zero)) l e = grind (arith, long_here)
    by_row (p ∷ q ∷ []) k (suc (suc (suc n))) l e = cc
    by_row (p ∷ q ∷ r ∷ ps) k n l e = absurd k

-- decoding where an instruction's parcels are
pub reading_of_parcels : (instr : Instr) (word position : ℕ) → IsInstr instr → StandsAt word position (parcels_of instr)
    → reading_at word position ≡ Legal instr (position + length (parcels_of instr))
reading_of_parcels instr word position r s = by_row (parcels_of instr) (entry_of_row instr r) (row_again instr r) s
  where
    by_row : (ps : List ℕ) → IsEntryOf instr ps → used_fields instr (first_parcel ps) ≡ first_parcel ps
        → StandsAt word position ps → reading_at word position ≡ Legal instr (position + length ps)
    by_row [] k z s = absurd k
    by_row (p ∷ []) k z s = short_here instr word position
        (k (parcel_at word position) (following_at word position) (ap (used_fields instr) s.1 ∙ z))
    by_row (p ∷ q ∷ []) k z s = grind (arith, long_here)
    by_row (p ∷ q ∷ r ∷ ps) k z s = absurd k

-- ---- codes ----

-- the code of an instruction isn't refused
has_code : (instr : Instr) → IsInstr instr → refusal_of (op_of instr) ≡ None
unfolding op_of
has_code instr r = by_row (parcels_of instr) (entry_of_row instr r) (row_again instr r)
  where
    by_row : (ps : List ℕ) → IsEntryOf instr ps → used_fields instr (first_parcel ps) ≡ first_parcel ps
        → refusal_of (op_at (first_parcel ps)) ≡ None
    by_row [] k z = absurd k
    by_row (p ∷ []) k z = sym (refusal_by_code p 0) ∙ ap refused_op (k p 0 z)
    by_row (p ∷ q ∷ []) k z = sym (refusal_by_code p q) ∙ ap refused_op (k p z)
    by_row (p ∷ q ∷ r ∷ ps) k z = absurd k

-- so no instruction has a refused code
pub no_code : (p q : ℕ) (op : Op) → entry_of p q ≡ Refused op → op ≡ op_at p → IsNoCode op
no_code p q op e g = λ instr r h.
    let d : Some op ≡ None =
    sym (ap refused_op e) ∙ refusal_by_code p q ∙ ap refusal_of (sym g ∙ sym h) ∙ has_code instr r in cc
