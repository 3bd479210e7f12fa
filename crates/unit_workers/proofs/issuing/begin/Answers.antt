use Rattle.std.proofs.Common.{◌∙◌, sym, subst, rules}
use Rattle.unit_workers.specs.Beginning.{Begins}
use Rattle.unit_workers.proofs.Beginning.{begins_at_once, begins_in_mid_word, begins_later, begins_on, new_log}
use Rattle.unit_workers.proofs.issuing.begin.Goals as goal
use Rattle.unit_workers.proofs.issuing.begin.Goals.{in-Some+in_ok-ask, in_default-due}

pub returns-in-Err-ExchangeBusy : goal.returns-in-Err-ExchangeBusy
returns-in-Err-ExchangeBusy c =
    begins_later c.args.start c.args.machine.now c.ask.new.self c.ask.result c.ask.ensures.answer c.ask.ensures.after
    (search rules)

pub returns-in-Err-MidWord : goal.returns-in-Err-MidWord
returns-in-Err-MidWord c =
    begins_in_mid_word c.args.start c.args.machine.now c.ask.new.self c.exchange.new.self c.in_ok-asked-in_default.field-0
    c.ask.result c.exchange.result c.ask.ensures.after (search rules) c.exchange.ensures.answer
    c.exchange.ensures.after (search rules)

pub returns : goal.returns
returns c =
    let w = c.args.machine.now in
    let begun : Begins c.is_empty-is_new.result c.args.start w c.exchange.new.self =
    begins_at_once c.is_empty-is_new.result c.args.start w c.ask.new.self c.exchange.new.self
    c.in_ok-asked-in_default.field-0 c.in_ok-made-in_default-exchange.field-0 c.ask.result c.exchange.result
    (new_log c.entries.result.now w.log c.is_empty-is_new.result (search rules) (search rules))
    c.ask.ensures.after (search rules) c.exchange.ensures.after (search rules) in
    elim c.match-due.branch [
      | in-Some+in_ok-ask h ↦ begins_on c.is_empty-is_new.result c.args.start h.in-Some.at w c.exchange.new.self
          c.match-due.machine h.ask-in-Some.result begun (h.machine-is ∙ h.ask-in-Some.ensures.after)
      | in_default-due h ↦ subst (Begins c.is_empty-is_new.result c.args.start w) (sym h.machine-is) begun
    ]
