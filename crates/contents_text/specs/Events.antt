-- The schedule lines of events. Source: ours.
use Rattle.std.specs.Prelude.{ℕ, List, [], ◌∷◌, codes, decimal}
use Rattle.std.specs.List.{concat}
use Rattle.word60.specs.Words.{octal_text}
use Rattle.program_order.specs.declared.event.Event.{Event}
use Rattle.program_order.specs.declared.event.Event.TheVariants as events
use Rattle.device_text.specs.Names.{unit_text}
use Rattle.device_text.specs.Pieces.{trimmed}

-- the schedule line of an event
abbrev pub event_line : Event → List ℕ
event_line events.Issue = codes "issue\n"
event_line (events.Read u) = concat (codes "read " ∷ unit_text u ∷ codes "\n" ∷ [])
event_line (events.Finish u) = concat (codes "finish " ∷ unit_text u ∷ codes "\n" ∷ [])
event_line (events.Store u) = concat (codes "store " ∷ unit_text u ∷ codes "\n" ∷ [])
event_line (events.Accept p) = concat (codes "accept " ∷ decimal p ∷ codes "\n" ∷ [])
event_line (events.Return c) = concat (codes "return " ∷ decimal c ∷ codes "\n" ∷ [])
event_line (events.BankFree k) = concat (codes "bank " ∷ decimal k ∷ codes "\n" ∷ [])
event_line (events.Ask a) = concat (codes "ask " ∷ trimmed (octal_text 20 a) ∷ codes "\n" ∷ [])
event_line events.Exchange = codes "exchange\n"
event_line (events.PpRead a) = concat (codes "ppread " ∷ trimmed (octal_text 20 a) ∷ codes "\n" ∷ [])
event_line (events.PpWrite a w) = concat (codes "ppwrite " ∷ trimmed (octal_text 20 a) ∷ codes " "
    ∷ trimmed (octal_text 20 w) ∷ codes "\n" ∷ [])
