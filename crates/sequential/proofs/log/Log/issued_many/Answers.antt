use Rattle.std.proofs.Common.{◌≡◌, ◌+◌, ◌-◌, ◌<◌, ◌++◌, [], ◌∷◌, false, ap, subst, sym, ◌∙◌, rules, arith}
use Rattle.std.specs.Vec.{vec_len, vec_capacity}
use Rattle.std.specs.Prelude.{◌^◌, if◌then◌else◌, min, replicate, slice_set}
use Rattle.sequential.specs.declared.log.Entry.TheVariants.{Issued as Count}
use Rattle.sequential.specs.declared.log.Log.TheInside.{Inside}
use Rattle.sequential.specs.Log.{Logged, steps_of, last_run, ends_issuing}
use Rattle.sequential.specs.Replay.{Issued}
use Rattle.sequential.proofs.Entries.{ends_open, more_after, counted_more, shortest_after_issues, room_for_count, room_kept, room_spent}
use Rattle.sequential.proofs.Entries.{raised_steps, raised_after, count_added, added_after, closed_at_last, none_last, open_at_count}
use Rattle.sequential.proofs.log.Log.issued_many.Goals.{in-Some+in_default-last, in_default}
use Rattle.sequential.proofs.log.Log.issued_many.Goals as goal

pub invariant_of-self : goal.invariant_of-self
invariant_of-self c =
    let fs = slice_set c.self.inside.entries.items (c.len-position.result - 1)
    (Count (c.in-Issued.before + c.args.count)) in
    let s : steps_of fs ≡ steps_of c.self.inside.entries.items ++ replicate c.args.count Issued =
    search (rules, raised_steps) in
    let m : fs ≡ more_after c.args.count c.self.inside.entries.items = search (rules, raised_after) in
    let i = counted_more c.self.inside.issues c.saturating_add-self-inside.result
    (steps_of c.self.inside.entries.items) _ c.args.count c.self.invariant.count c.self.invariant.run
    (subst (λ (l : Logged). last_run l.steps + c.args.count < 2 ^ 64) (sym c.self.view_is) c.requires.count)
    s c.saturating_add-self-inside.ensures in
    record {
      count = i.count;
      run = i.run;
      shortest = shortest_after_issues c.self.inside.entries.items fs c.args.count (omega (arith, c.if-count-eq0.false))
          c.self.invariant.shortest m s;
    }

pub push_reserved-requires : goal.push_reserved-requires
push_reserved-requires c =
    let closed : ends_open c.self.inside.entries.items ≡ false =
    elim c.match-last.branch [
      | in-Some+in_default-last x ↦ search (rules, closed_at_last)
      | in_default x ↦ search (rules, none_last)
    ] in
    let same : c.match-last.self-inside ≡ record c.self.inside { issues = c.saturating_add-self-inside.result } =
    elim c.match-last.branch [
      | in-Some+in_default-last x ↦ x.self-inside-is
      | in_default x ↦ x.self-inside-is
    ] in
    let k = room_for_count c.self.inside.entries.items c.args.self.now
    (vec_capacity c.self.inside.entries - vec_len c.self.inside.entries) c.self.invariant.shortest c.self.view_is
    (λ k. c.requires.room k (omega (arith, c.if-count-eq0.false))) closed in
    subst (λ (m : Inside). vec_len m.entries < vec_capacity m.entries) (sym same) (omega (arith, k))

pub returns-in-Issued-clause-room : goal.returns-in-Issued-clause-room
returns-in-Issued-clause-room c =
    room_kept c.self.inside.entries.items c.args.self.now
    (vec_capacity c.self.inside.entries - vec_len c.self.inside.entries) (min c.args.count 1) c.self.invariant.shortest
    c.self.view_is (search (rules, open_at_count))

pub invariant_of-self-2 : goal.invariant_of-self-2
invariant_of-self-2 c =
    let closed : ends_open c.self.inside.entries.items ≡ false =
    elim c.match-last.branch [
      | in-Some+in_default-last x ↦ search (rules, closed_at_last)
      | in_default x ↦ search (rules, none_last)
    ] in
    let same : c.match-last.self-inside ≡ record c.self.inside { issues = c.saturating_add-self-inside.result } =
    elim c.match-last.branch [
      | in-Some+in_default-last x ↦ x.self-inside-is
      | in_default x ↦ x.self-inside-is
    ] in
    let items : c.push_reserved.new.self.items ≡ c.self.inside.entries.items ++ Count c.args.count ∷ [] =
    c.push_reserved.ensures.items ∙ ap (λ (m : Inside). m.entries.items ++ Count c.args.count ∷ []) same in
    let s = ap steps_of items ∙ count_added c.self.inside.entries.items c.args.count in
    let i = counted_more c.self.inside.issues c.match-last.self-inside.issues
    (steps_of c.self.inside.entries.items) _ c.args.count c.self.invariant.count c.self.invariant.run
    (subst (λ (l : Logged). last_run l.steps + c.args.count < 2 ^ 64) (sym c.self.view_is) c.requires.count)
    s (ap (λ (m : Inside). m.issues) same ∙ c.saturating_add-self-inside.ensures) in
    record {
      count = i.count;
      run = i.run;
      shortest = shortest_after_issues c.self.inside.entries.items _ c.args.count (omega (arith, c.if-count-eq0.false))
          c.self.invariant.shortest (items ∙ added_after c.self.inside.entries.items c.args.count closed) s;
    }

pub returns-clause-room : goal.returns-clause-room
returns-clause-room c =
    let closed : ends_open c.self.inside.entries.items ≡ false =
    elim c.match-last.branch [
      | in-Some+in_default-last x ↦ search (rules, closed_at_last)
      | in_default x ↦ search (rules, none_last)
    ] in
    let same : c.match-last.self-inside ≡ record c.self.inside { issues = c.saturating_add-self-inside.result } =
    elim c.match-last.branch [
      | in-Some+in_default-last x ↦ x.self-inside-is
      | in_default x ↦ x.self-inside-is
    ] in
    let k = room_for_count c.self.inside.entries.items c.args.self.now
    (vec_capacity c.self.inside.entries - vec_len c.self.inside.entries) c.self.invariant.shortest c.self.view_is
    (λ k. c.requires.room k (omega (arith, c.if-count-eq0.false))) closed in
    let capacity : vec_capacity c.push_reserved.new.self ≡ vec_capacity c.self.inside.entries =
    c.push_reserved.ensures.capacity ∙ ap (λ (m : Inside). vec_capacity m.entries) same in
    ap (λ n. n - vec_len c.push_reserved.new.self + (if ends_issuing c.args.self.now.steps then 0 else min c.args.count 1))
    capacity
    ∙ room_spent c.self.inside.entries.items c.args.self.now (vec_len c.self.inside.entries)
    (vec_capacity c.self.inside.entries) (vec_len c.push_reserved.new.self) c.args.count c.self.invariant.shortest
    c.self.view_is closed (omega (arith, c.if-count-eq0.false)) (omega (arith, k))
    (c.push_reserved.ensures.len ∙ ap (λ (m : Inside). vec_len m.entries + 1) same)
