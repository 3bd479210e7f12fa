-- Copying words of memory, from an address on, into a list of numbers.
use Rattle.std.proofs.Common.{◌≡◌, ℕ, ◌+◌, ◌<◌, List, [], ◌∷◌, ◌++◌, length, take, drop, min, refl, sym, ap, ◌∙◌, subst, arith}
use Rattle.std.proofs.lemmas.List.{take_more, take_more_set, drop-set-lt, drop_more, length-set, get_or-drop, length-drop, take-append-drop}
use Rattle.std.specs.Prelude.{slice_set, slice_index_or}

-- the first k words were copied, and the words after them are unchanged
pub record IsCopiedTo (memory words old : List ℕ) (first k : ℕ) : Type 0 where
  pub same_length : length words ≡ length old
  pub copied : take k words ≡ take k (drop first memory)
  pub left : drop k words ≡ drop k old

tail : List ℕ → List ℕ
tail [] = []
tail (x ∷ xs) = xs

-- before the first word
pub copied_none : (memory words : List ℕ) (first : ℕ) → IsCopiedTo memory words words first 0
copied_none memory words first = record { same_length = refl; copied = refl; left = refl }

-- after one more word
pub copied_more : (memory words old : List ℕ) (first k word : ℕ) → IsCopiedTo memory words old first k → k < length old
    → first + k < length memory → word ≡ slice_index_or memory (first + k) 0
    → IsCopiedTo memory (slice_set words k word) old first (k + 1)
unfolding tail
copied_more memory words old first k word is in_words in_memory same =
    let here : k < length words = subst (λ (n : ℕ). k < n) (sym is.same_length) in_words in
    let there : k < length (drop first memory) = subst (λ (n : ℕ). k < n) (sym (length-drop first memory)) (omega (arith, in_memory)) in
    record {
      same_length = length-set words k word ∙ is.same_length;
      copied = take_more_set words k word here ∙ ap (λ xs. xs ++ word ∷ []) is.copied
          ∙ ap (λ x. take k (drop first memory) ++ x ∷ []) (same ∙ sym (get_or-drop first memory k 0))
          ∙ sym (take_more (drop first memory) k 0 there);
      left = drop-set-lt (k + 1) words k word (omega arith)
          ∙ ap tail (sym (drop_more words k 0 here) ∙ is.left ∙ drop_more old k 0 in_words);
    }

-- after all words
pub copied_all : (memory words old : List ℕ) (first k : ℕ) → IsCopiedTo memory words old first k
    → k ≡ min (length (drop first memory)) (length old)
    → words ≡ take (min (length (drop first memory)) (length old)) (drop first memory)
    ++ drop (min (length (drop first memory)) (length old)) old
copied_all memory words old first k is all =
    subst (λ (n : ℕ). words ≡ take n (drop first memory) ++ drop n old) all
    (sym (take-append-drop k words) ∙ ap (λ xs. xs ++ drop k words) is.copied ∙ ap (λ xs. take k (drop first memory) ++ xs) is.left)
