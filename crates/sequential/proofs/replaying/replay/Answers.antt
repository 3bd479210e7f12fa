use Rattle.std.proofs.Common.{◌≡◌, ◌∙◌, [], true, false, sym, arith}
use Rattle.std.specs.Prelude.{Result, Ok, Err, IfErr, OnOk, MatchResult}
use Rattle.std.specs.Result.{is_err}
use Rattle.instructions.specs.declared.refusal.Refusal.{Refusal}
use Rattle.sequential.proofs.Runs.{replay_begun, replay_more, refused_replay, refused_at}
use Rattle.sequential.proofs.replaying.replay.Goals as goal

-- a refusal has a second property that follows from its first
refused_as : {T : Type 0} (r : Result T Refusal) (P Q : Refusal → Type 0) → ((k : Refusal) → P k → Q k) → IfErr r P
    → IfErr r Q
refused_as (Ok x) P Q f h = h
refused_as (Err k) P Q f h = f k h

-- the answer for a refused entry
refused_answer : {T : Type 0} (r : Result T Refusal) (P : T → Type 0) (Q : Refusal → Type 0) → is_err r ≡ true
    → IfErr r Q → MatchResult r P Q
refused_answer (Ok x) P Q e h = cc
refused_answer (Err k) P Q e h = h

-- a property of every answer that isn't a refusal
answered : {T : Type 0} (r : Result T Refusal) (P : Type 0) → is_err r ≡ false → OnOk r P → P
answered (Ok x) P e h = h
answered (Err k) P e h = cc

pub loop-entry-init : goal.loop-entry-init
loop-entry-init c = replay_begun c.args.state.now []

pub returns-then-is_err-clause-refused : goal.returns-then-is_err-clause-refused
returns-then-is_err-clause-refused c = refused_as c.replay_entry-answer.result _ _
    (λ k r. grind (arith, refused_at)) c.replay_entry-answer.ensures.refused

pub returns-then-is_err-clause-answer : goal.returns-then-is_err-clause-answer
returns-then-is_err-clause-answer c = refused_answer c.replay_entry-answer.result _ _
    (sym c.is_err.ensures.value ∙ c.if-is_err.true)
    (refused_as c.replay_entry-answer.result _ _
    (λ k r. refused_replay c.args.state.now c.replay_entry-answer.new.state c.args.log.now.steps k r)
    (returns-then-is_err-clause-refused c))

pub loop-entry-preserved : goal.loop-entry-preserved
loop-entry-preserved c = grind (arith, replay_more, answered)
