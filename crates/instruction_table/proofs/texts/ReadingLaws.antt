-- The candidate for an instruction's text is that instruction.
use Rattle.std.proofs.Common.{ℕ, zero, suc, ◌≡◌, ◌+◌, ◌-◌, ◌*◌, ◌/◌, ◌%◌, ◌^◌, ◌<◌, ◌≤◌, false, eqb, List, [], ◌∷◌}
use Rattle.std.proofs.Common.{◌++◌, get_or, append_assoc, append-nil, refl, sym, ◌∙◌, ap, arith, inl, inr}
use Rattle.std.proofs.lemmas.Bool.{cases_lt}
use Rattle.std.proofs.lemmas.Bool.Decides.{nat_tests}
use Rattle.instructions.specs.declared.instr.Instr.{Instr}
use Rattle.instruction_table.specs.Candidate.{number_after, number_of, candidate_in}
use Rattle.instruction_table.specs.Octal.{octal}
use Rattle.instruction_table.specs.Spelling.{spelling}
use Rattle.instruction_table.specs.Table.{IsInstr}
use Rattle.instruction_table.proofs.texts.OctalLaws.{octal_step, octal_small}

digit_again : (d : ℕ) → d < 8 → (48 + d - 48) % 8 ≡ d
digit_again d small = omega arith

number_after_push : (n : ℕ) (xs : List ℕ) (c : ℕ)
    → number_after n (xs ++ c ∷ []) ≡ (number_after n xs * 8 + (c - 48) % 8) % 2 ^ 18
number_after_push n [] c = refl
number_after_push n (x ∷ xs) c = number_after_push ((n * 8 + (x - 48) % 8) % 2 ^ 18) xs c

one_digit : (n : ℕ) → n < 8 → number_after 0 (octal n) ≡ n
one_digit n few = rw (octal_small n few) (let e : (0 * 8 + (48 + n % 8 - 48) % 8) % 2 ^ 18 ≡ n = omega arith in e)

more_digits : (n : ℕ) → 8 ≤ n → n < 2 ^ 18 → number_after 0 (octal (n / 8)) ≡ n / 8 → number_after 0 (octal n) ≡ n
more_digits n many small rest = grind (arith, octal_step, number_after_push)

number_within : (fuel n : ℕ) → n ≤ fuel → n < 2 ^ 18 → number_after 0 (octal n) ≡ n
number_within zero n enough small = one_digit n (omega arith)
number_within (suc fuel) n enough small =
    grind (arith, number_within fuel (n / 8) (omega arith) (omega arith), one_digit, more_digits, cases_lt)

number_again : (n : ℕ) → n < 2 ^ 18 → number_after 0 (octal n) ≡ n
number_again n small = number_within n n (omega arith) small

count_again : (n : ℕ) → n < 64 → number_after 0 (octal n) % 64 ≡ n
count_again n small = rw (number_again n (omega arith)) (omega arith)

-- the text of a number begins with a digit, not with 'B'
one_not_b : (n : ℕ) (rest : List ℕ) → n < 8 → eqb (get_or (octal n ++ rest) 0 0) 66 ≡ false
one_not_b n rest few = rw (octal_small n few) (let small : n % 8 < 8 = omega arith in grind (arith, nat_tests))

not_b_within : (fuel n : ℕ) (rest : List ℕ) → n ≤ fuel → eqb (get_or (octal n ++ rest) 0 0) 66 ≡ false
not_b_within zero n rest enough = one_not_b n rest (omega arith)
not_b_within (suc fuel) n rest enough =
    elim (cases_lt n 8) [
      | inl few ↦ one_not_b n rest few
      | inr many ↦ rw (octal_step n many, append_assoc (octal (n / 8)) ((48 + n % 8) ∷ []) rest)
          (not_b_within fuel (n / 8) ((48 + n % 8) ∷ rest) (omega arith))
    ]

not_b : (n : ℕ) → eqb (get_or (octal n) 0 0) 66 ≡ false
not_b n = ap (λ t. eqb (get_or t 0 0) 66) (sym (append-nil (octal n))) ∙ not_b_within n n [] (omega arith)

pub candidate_of_spelling : (instr : Instr) → IsInstr instr → candidate_in (spelling instr) ≡ instr
unfolding candidate_in number_of
candidate_of_spelling instr r = search (arith, number_again, digit_again, not_b, count_again)
