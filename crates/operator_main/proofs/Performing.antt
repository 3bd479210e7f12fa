-- Performing a request, with memory for its buffer and without.
use Rattle.std.proofs.Common.{◌≡◌, ◌==◌, ℕ, List, [], Option, None, Some, Result, Err, refl, inl, ap, ◌∙◌}
use Rattle.std.proofs.Common.{subst, le_refl, if◌then◌else◌}
use Rattle.std.specs.Prelude.{option_map}
use Rattle.std.proofs.KnownBytes.{Keeps-refl, prepend_known-nil}
use Rattle.std.specs.Io.Buffered.{reader_remaining, reader_inner, reader_buffer, reader_capacity}
use Rattle.std.specs.Io.KnownBytes.{prepend_known}
use Rattle.std.specs.declared.io.buffered.BufReader.{BufReader}
use Rattle.instructions.specs.declared.refusal.Refusal.TheVariants as refusals
use Rattle.device_text.specs.Device.{Moves}
use Rattle.deck.specs.Deck.{Reading, Good, Bad, deck}
use Rattle.job_deck.specs.SessionResult.{Performs}
use Rattle.operator_terms.specs.declared.fault.ProgramFault.{ProgramFault}
use Rattle.operator_terms.specs.declared.fault.ProgramFault.TheVariants as faults
use Rattle.operator_terms.specs.declared.status.Status.{Status}
use Rattle.command_line.specs.declared.arguments.Request.{Request}
use Rattle.command_line.specs.declared.arguments.Request.TheVariants as requests
use Rattle.operator_main.specs.Request.{CarriesOut, Performed}

abbrev after_deck : Reading → List ℕ
after_deck (Good whole n after) = after
after_deck (Bad n fault after) = after

unbegun : (reading : Reading) (budget : ℕ) (old : Option (List ℕ))
    → Performs (Err refusals.OutOfMemory) budget reading (after_deck reading) old old
unbegun (Good whole n after) budget old = inl (le_refl _, Keeps-refl old)
unbegun (Bad n fault after) budget old = Keeps-refl old

unbegun_there : (request : Request) (xs : List ℕ) (old : Option (List ℕ))
    → CarriesOut request (Err faults.OutOfMemory) xs (after_deck (deck xs)) old old
unbegun_there (requests.Run budget) xs old = Keeps-refl old
unbegun_there (requests.RunSequentially budget) xs old = (Err refusals.OutOfMemory, Keeps-refl old, refl)
unbegun_there (requests.Replay log) xs old = (Err refusals.OutOfMemory, Keeps-refl old, refl)
unbegun_there requests.ReplayFollowing xs old = (Err refusals.OutOfMemory, Keeps-refl old, refl)
unbegun_there (requests.Events budget) xs old = (Err refusals.OutOfMemory, unbegun (deck xs) budget old, refl)
unbegun_there requests.List xs old = (Err refusals.OutOfMemory, Keeps-refl old, refl)

left_there : (request : Request) (input old : Option (List ℕ))
    → Moves input (option_map (λ xs. after_deck (deck xs)) input)
    (λ xs ys. CarriesOut request (Err faults.OutOfMemory) xs ys old old)
left_there request None old = tt
left_there request (Some xs) old = unbegun_there request xs old

-- there is no memory for the buffer
pub performed_nothing : (request : Request) (input old : Option (List ℕ))
    → Performed request (Err faults.OutOfMemory) input old old
performed_nothing request input old =
    record {
      rest = option_map (λ xs. after_deck (deck xs)) input;
      carried_out = left_there request input old;
    }

-- the bytes behind a new reader's buffer are the bytes left to read
pub fresh_reader : {T A : Type 0} (remaining : T → Option (List ℕ)) (r : BufReader T A) (inner : T)
    → reader_inner r ≡ inner → reader_buffer r ≡ [] → reader_capacity r ≡ 8192
    → reader_remaining remaining r ≡ remaining inner
fresh_reader remaining r inner i b k =
    let whole : prepend_known (reader_buffer r) (remaining r.inner) ≡ remaining inner =
    ap (λ bs. prepend_known bs (remaining r.inner)) b ∙ prepend_known-nil (remaining r.inner) ∙ ap remaining i in
    ap (λ n. if n == 0 then None else prepend_known (reader_buffer r) (remaining r.inner)) k ∙ whole

-- the request is performed between devices over the input and the output
pub performed : (request : Request) (found end : Result Status ProgramFault)
    (input old start rest first last new : Option (List ℕ)) → found ≡ end → start ≡ input → first ≡ old → last ≡ new
    → Moves start rest (λ xs ys. CarriesOut request found xs ys first last) → Performed request end input old new
performed request found end input old start rest first last new e s f l m =
    subst (λ x. Performed request x input old new) e (record {
      rest = rest;
      carried_out =
          subst (λ x. Moves x rest (λ xs ys. CarriesOut request found xs ys old new)) s
          (subst (λ x. Moves start rest (λ xs ys. CarriesOut request found xs ys x new)) f
          (subst (λ x. Moves start rest (λ xs ys. CarriesOut request found xs ys first x)) l m));
    })
