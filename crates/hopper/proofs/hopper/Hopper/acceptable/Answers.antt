-- Finding the reference in a place, and judging it.
use Rattle.std.proofs.Common.{◌≡◌, rules, tests, true, false, sym, ap, ◌∙◌, get_or, take}
use Rattle.std.specs.Prelude.{Some}
use Rattle.std.specs.List.{list_any, position}
use Rattle.std.proofs.lemmas.Iterator.{YieldsList-from_slice}
use Rattle.std.proofs.lemmas.Iterator.Search.{any_from_yields_List, position_from_yields_List}
use Rattle.instructions.specs.Finding.{seek}
use Rattle.hopper.specs.Queue.{Queue, stands_at, reference_at, holds_back, accept_answer}
use Rattle.hopper.specs.inner.Found.{found_at}
use Rattle.hopper.proofs.Laws.{nothing_found, one_found, bank_refused, order_judged}
use Rattle.hopper.proofs.hopper.Hopper.acceptable.Goals as goal

pub returns-in_default-clause-answer : goal.returns-in_default-clause-answer
unfolding accept_answer
returns-in_default-clause-answer c =
    let p : c.position.result ≡ position (stands_at c.args.place) c.as_slice-entered.result.now =
    position_from_yields_List _ _ _ _ c.position.ensures.ran
    (YieldsList-from_slice c.as_slice-entered.result.now cc) (λ x b q k. search (rules, tests)) in
    sym (ap (λ (q : Queue). accept_answer q.busy (seek (reference_at c.args.place) q.entered)) c.self.view_is)
    ∙ sym (ap (λ es. accept_answer c.self.inside.busy (seek (reference_at c.args.place) es))
    c.as_slice-entered.ensures.value)
    ∙ ap (accept_answer c.self.inside.busy)
    (nothing_found c.args.place c.as_slice-entered.result.now (sym p ∙ c.in_default.is))

pub returns-then-self-from-clause-answer : goal.returns-then-self-from-clause-answer
returns-then-self-from-clause-answer c =
    let p : c.position.result ≡ position (stands_at c.args.place) c.as_slice-entered.result.now =
    position_from_yields_List _ _ _ _ c.position.ensures.ran
    (YieldsList-from_slice c.as_slice-entered.result.now cc) (λ x b q k. search (rules, tests)) in
    let f = one_found c.args.place c.as_slice-entered.result.now c.in-Some.index c.index-entered-index.result
    (sym p ∙ c.in-Some.is) c.index-entered-index.is in
    let b : get_or c.self.inside.busy c.bank_of-bank.result false ≡ true =
    ap (λ n. get_or c.self.inside.busy n false) (sym c.from.ensures) ∙ c.if-self-from.true in
    sym (ap (λ (q : Queue). accept_answer q.busy (seek (reference_at c.args.place) q.entered)) c.self.view_is)
    ∙ sym (ap (λ es. accept_answer c.self.inside.busy (seek (reference_at c.args.place) es))
    c.as_slice-entered.ensures.value)
    ∙ bank_refused c.self.inside.busy _ _ c.bank_of-bank.result f.1 c.bank_of-bank.ensures.value b

pub returns-then-any-clause-answer : goal.returns-then-any-clause-answer
returns-then-any-clause-answer c =
    let p : c.position.result ≡ position (stands_at c.args.place) c.as_slice-entered.result.now =
    position_from_yields_List _ _ _ _ c.position.ensures.ran
    (YieldsList-from_slice c.as_slice-entered.result.now cc) (λ x b q k. search (rules, tests)) in
    let f = one_found c.args.place c.as_slice-entered.result.now c.in-Some.index c.index-entered-index.result
    (sym p ∙ c.in-Some.is) c.index-entered-index.is in
    let b : get_or c.self.inside.busy c.bank_of-bank.result false ≡ false =
    ap (λ n. get_or c.self.inside.busy n false) (sym c.from.ensures) ∙ c.if-self-from.false in
    let h : c.any.result ≡ list_any (holds_back (get_or c.as_slice-entered.result.now c.in-Some.index
    c.index-entered-index.result).reference) (take c.in-Some.index c.as_slice-entered.result.now) =
    any_from_yields_List _ _ _ _ c.any.ensures.ran
    (YieldsList-from_slice (take c.in-Some.index c.as_slice-entered.result.now) cc)
    (λ x b q k. search (rules, tests)) in
    sym (ap (λ (q : Queue). accept_answer q.busy (seek (reference_at c.args.place) q.entered)) c.self.view_is)
    ∙ sym (ap (λ es. accept_answer c.self.inside.busy (seek (reference_at c.args.place) es))
    c.as_slice-entered.ensures.value)
    ∙ order_judged c.self.inside.busy _ _ c.bank_of-bank.result _ f.1 c.bank_of-bank.ensures.value b
    (sym h ∙ c.if-any.true)

pub returns-clause-answer : goal.returns-clause-answer
returns-clause-answer c =
    let p : c.position.result ≡ position (stands_at c.args.place) c.as_slice-entered.result.now =
    position_from_yields_List _ _ _ _ c.position.ensures.ran
    (YieldsList-from_slice c.as_slice-entered.result.now cc) (λ x b q k. search (rules, tests)) in
    let f = one_found c.args.place c.as_slice-entered.result.now c.in-Some.index c.index-entered-index.result
    (sym p ∙ c.in-Some.is) c.index-entered-index.is in
    let b : get_or c.self.inside.busy c.bank_of-bank.result false ≡ false =
    ap (λ n. get_or c.self.inside.busy n false) (sym c.from.ensures) ∙ c.if-self-from.false in
    let h : c.any.result ≡ list_any (holds_back (get_or c.as_slice-entered.result.now c.in-Some.index
    c.index-entered-index.result).reference) (take c.in-Some.index c.as_slice-entered.result.now) =
    any_from_yields_List _ _ _ _ c.any.ensures.ran
    (YieldsList-from_slice (take c.in-Some.index c.as_slice-entered.result.now) cc)
    (λ x b q k. search (rules, tests)) in
    sym (ap (λ (q : Queue). accept_answer q.busy (seek (reference_at c.args.place) q.entered)) c.self.view_is)
    ∙ sym (ap (λ es. accept_answer c.self.inside.busy (seek (reference_at c.args.place) es))
    c.as_slice-entered.ensures.value)
    ∙ order_judged c.self.inside.busy _ _ c.bank_of-bank.result _ f.1 c.bank_of-bank.ensures.value b
    (sym h ∙ c.if-any.false)

pub returns-clause-found : goal.returns-clause-found
returns-clause-found c =
    let p : c.position.result ≡ position (stands_at c.args.place) c.as_slice-entered.result.now =
    position_from_yields_List _ _ _ _ c.position.ensures.ran
    (YieldsList-from_slice c.as_slice-entered.result.now cc) (λ x b q k. search (rules, tests)) in
    let f = one_found c.args.place c.as_slice-entered.result.now c.in-Some.index c.index-entered-index.result
    (sym p ∙ c.in-Some.is) c.index-entered-index.is in
    let same = c.as_slice-entered.ensures.value ∙ ap (λ (q : Queue). q.entered) c.self.view_is in
    ap (seek (reference_at c.args.place)) (sym same) ∙ f.1
    ∙ ap (λ es. Some (found_at es c.args.place c.in-Some.index
    (get_or c.as_slice-entered.result.now c.in-Some.index c.index-entered-index.result).reference)) same
