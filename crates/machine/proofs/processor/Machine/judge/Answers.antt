use Rattle.std.proofs.Common.{◌∙◌, ap, refl, sym}
use Rattle.in_flight.specs.Tests.{refusal_of}
use Rattle.program_order.specs.declared.event.Event.TheVariants.{Read, Finish, Store, Accept, Return, Ask, Exchange}
use Rattle.program_order.specs.declared.event.Event.TheVariants.{PpWrite}
use Rattle.program_order.specs.Events.{allowed, tests_of}
use Rattle.program_order.specs.Peripheral.{access_tests}
use Rattle.program_order.specs.Run.{answer_of, done_by}
use Rattle.machine.specs.contracts.processor.Machine.{the_view}
use Rattle.machine.proofs.making.Made.{made_answer}
use Rattle.machine.proofs.making.Making.{accept_judged, ask_judged, exchange_judged, finish_judged, read_judged}
use Rattle.machine.proofs.making.Making.{return_judged}
use Rattle.machine.proofs.processor.Machine.judge.Goals as goal

pub returns-in-Read : goal.returns-in-Read
unfolding done_by
returns-in-Read c =
    made_answer (the_view c.self.inside) c.args.self.now (Read c.in-Read.unit) c.may_read.result c.made.result c.self.view_is refl
    (read_judged (the_view c.self.inside) c.in-Read.unit _ _ c.may_read.ensures.answer refl)
    c.made.ensures
    ∙ ap (answer_of c.args.self.now) (sym c.in-Read.is)

pub returns-in-Finish : goal.returns-in-Finish
unfolding done_by
returns-in-Finish c =
    made_answer (the_view c.self.inside) c.args.self.now (Finish c.in-Finish.unit) c.judge_finish.result c.made-in-Finish.result c.self.view_is refl
    (finish_judged (the_view c.self.inside) c.in-Finish.unit _ _ c.judge_finish.ensures.answer refl)
    c.made-in-Finish.ensures
    ∙ ap (answer_of c.args.self.now) (sym c.in-Finish.is)

pub returns-in-Store : goal.returns-in-Store
unfolding done_by
returns-in-Store c =
    made_answer (the_view c.self.inside) c.args.self.now (Store c.in-Store.unit) c.may_store.result c.made-in-Store.result c.self.view_is refl
    (ap (λ w. allowed w (Store c.in-Store.unit)) c.self.view_is ∙ c.may_store.ensures.answer)
    c.made-in-Store.ensures
    ∙ ap (answer_of c.args.self.now) (sym c.in-Store.is)

pub returns-in-Accept : goal.returns-in-Accept
unfolding done_by
returns-in-Accept c =
    made_answer (the_view c.self.inside) c.args.self.now (Accept c.in-Accept.place) c.may_accept.result c.made-in-Accept.result c.self.view_is refl
    (accept_judged (the_view c.self.inside) c.in-Accept.place _ _ c.may_accept.ensures refl)
    c.made-in-Accept.ensures
    ∙ ap (answer_of c.args.self.now) (sym c.in-Accept.is)

pub returns-in-Return : goal.returns-in-Return
unfolding done_by
returns-in-Return c =
    made_answer (the_view c.self.inside) c.args.self.now (Return c.in-Return.channel) c.may_return.result c.made-in-Return.result c.self.view_is refl
    (return_judged (the_view c.self.inside) c.in-Return.channel _ _ c.may_return.ensures.answer refl)
    c.made-in-Return.ensures
    ∙ ap (answer_of c.args.self.now) (sym c.in-Return.is)

pub returns-in-Ask : goal.returns-in-Ask
unfolding done_by
returns-in-Ask c =
    made_answer (the_view c.self.inside) c.args.self.now (Ask c.in-Ask.at) c.judge_ask.result c.made-in-Ask.result c.self.view_is refl
    (ask_judged (the_view c.self.inside) c.in-Ask.at c.size-size.result c.judge_ask.result _ c.size-size.ensures.value
    c.judge_ask.ensures.answer refl)
    c.made-in-Ask.ensures
    ∙ ap (answer_of c.args.self.now) (sym c.in-Ask.is)

pub returns-in-Exchange : goal.returns-in-Exchange
unfolding done_by
returns-in-Exchange c =
    made_answer (the_view c.self.inside) c.args.self.now (Exchange) c.judge_exchange.result c.made-in-Exchange.result c.self.view_is refl
    (exchange_judged (the_view c.self.inside) _ _ c.judge_exchange.ensures.answer refl)
    c.made-in-Exchange.ensures
    ∙ ap (answer_of c.args.self.now) (sym c.in-Exchange.is)

pub returns-in-PpWrite : goal.returns-in-PpWrite
unfolding done_by allowed tests_of
returns-in-PpWrite c =
    made_answer (the_view c.self.inside) c.args.self.now (PpWrite c.in-PpWrite.at c.in-PpWrite.field-1) c.judge_access.result c.made-in-PpWrite.result c.self.view_is refl
    (ap (λ n. refusal_of (access_tests c.self.inside.accessed c.self.inside.in_flight.pending n c.in-PpWrite.at))
    (sym c.size-size.ensures.value) ∙ c.judge_access.ensures.answer)
    c.made-in-PpWrite.ensures
    ∙ ap (answer_of c.args.self.now) (sym c.in-PpWrite.is)
