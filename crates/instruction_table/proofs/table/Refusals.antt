-- Whether a parcel is refused depends only on its code.
use Rattle.std.proofs.Common.{ℕ, zero, suc, ◌≡◌, ◌/◌, ◌%◌, ◌^◌, Bool, true, false, cond, eqb, List, [], ◌∷◌, Option}
use Rattle.std.proofs.Common.{Some, None, refl, get_or, map, arith}
use Rattle.std.specs.Prelude.{◌||◌}
use Rattle.instructions.specs.declared.instr.Op.{Op}
use Rattle.instructions.specs.declared.instr.Op.TheVariants.{Plain, Extended}
use Rattle.instruction_table.specs.declared.decoding.TableEntry.{TableEntry}
use Rattle.instruction_table.specs.declared.decoding.TableEntry.TheVariants.{Short, Long, Refused}
use Rattle.instruction_table.specs.Decoding.{entry, rows, entry_of}
use Rattle.instruction_table.specs.Opcode.{op_at}

abbrev pub refused_op : TableEntry → Option Op
refused_op (Short instr) = None
refused_op (Long instr) = None
refused_op (Refused op) = Some op

refused_at : (xs : List TableEntry) (m : ℕ) → refused_op (entry xs m) ≡ get_or (map refused_op xs) m None
refused_at [] m = refl
refused_at (x ∷ xs) zero = refl
refused_at (x ∷ xs) (suc m) = refused_at xs m

refused_in_row : (xss : List (List TableEntry)) (f m : ℕ)
    → refused_op (entry (get_or xss f []) m) ≡ get_or (get_or (map (map refused_op) xss) f []) m None
refused_in_row [] f m = refl
refused_in_row (xs ∷ xss) zero m = refused_at xs m
refused_in_row (xs ∷ xss) (suc f) m = refused_in_row xss f m

-- only after 01 does the field i matter
same_refusal : (f m i i' j j' k k' K K' : ℕ) → (f ≡ 0 → m ≡ 1 → i ≡ i')
    → refused_op (entry (rows f i j k K) m) ≡ refused_op (entry (rows f i' j' k' K') m)
same_refusal f m i i' j j' k k' h g e = search (arith, refused_at, refused_in_row)

abbrev pub refusal_of : Op → Option Op
refusal_of (Plain f m) = refused_op (entry (rows f 0 0 0 0) m)
refusal_of (Extended f m i) = refused_op (entry (rows f i 0 0 0) m)

pub refusal_by_code : (p q : ℕ) → refused_op (entry_of p q) ≡ refusal_of (op_at p)
unfolding entry_of
refusal_by_code p q = by_test (eqb (p / 2 ^ 9) 1 || eqb (p / 2 ^ 9) 3) refl
  where
    by_test : (b : Bool) → (eqb (p / 2 ^ 9) 1 || eqb (p / 2 ^ 9) 3) ≡ b
        → refused_op (entry_of p q)
        ≡ refusal_of (cond b (Extended (p / 2 ^ 12) (p / 2 ^ 9 % 8) (p / 2 ^ 6 % 8))
        (Plain (p / 2 ^ 12) (p / 2 ^ 9 % 8)))
    by_test true e = search (arith, same_refusal)
    by_test false e =
        same_refusal (p / 2 ^ 12) (p / 2 ^ 9 % 8) (p / 2 ^ 6 % 8) 0 (p / 2 ^ 3 % 8) 0 (p % 8) 0 _ 0
        (λ g h. absurd (grind arith))
