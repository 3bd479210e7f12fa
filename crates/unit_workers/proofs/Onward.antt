-- Knowledge that extends earlier knowledge.
use Rattle.std.proofs.Common.{◌≡◌, ◌≤◌, List, ◌∷◌, [], ◌++◌, refl, sym, ap, ◌∙◌, append_assoc, subst}
use Rattle.std.specs.Prelude.{Result, Ok, Err, IfOk}
use Rattle.std.proofs.lemmas.List.{append-nil}
use Rattle.program_order.specs.SnapshotView.{Snapped}
use Rattle.sequential.specs.Log.{issued}
use Rattle.sequential.specs.Replay.{LogStep}
use Rattle.machine_lock.specs.CallerKnowledge.{Booted, Known, StartsWith, IsMade, Learnt}
use Rattle.unit_workers.specs.Onward.{GoesOnFrom, EndsFrom}

pub longer : (xs ys zs : List LogStep) → StartsWith ys xs → StartsWith zs ys → StartsWith zs xs
longer xs ys zs f g = (f.0 ++ g.0, g.1 ∙ ap (λ l. l ++ g.0) f.1 ∙ append_assoc xs f.0 g.0)

pub at_first : (k : Known) → GoesOnFrom k k
at_first k = record { booted = refl; log = ([], sym (append-nil k.log)) }

pub through : (a b c : Known) → GoesOnFrom a b → GoesOnFrom b c → GoesOnFrom a c
through a b c f g = record { booted = g.booted ∙ f.booted; log = longer a.log b.log c.log f.log g.log }

pub moved : (a b c : Known) → GoesOnFrom a b → c ≡ b → GoesOnFrom a c
moved a b c f e = subst (λ k. GoesOnFrom a k) (sym e) f

pub learnt_on : (a b : Known) → Learnt a b → GoesOnFrom a b
learnt_on a b l = record { booted = ap (λ (k : Known). k.booted) l.1; log = l.0 }

pub made_on : (x : LogStep) (a b : Known) → IsMade x a b → GoesOnFrom a b
made_on x a b m =
    record {
      booted = ap (λ (k : Known). k.booted) m.2;
      log = longer a.log m.0 b.log m.1 (x ∷ [], ap (λ (k : Known). k.log) m.2);
    }

ends_through : (a b : Known) (s : Snapped) → GoesOnFrom a b → EndsFrom b s → EndsFrom a s
ends_through a b s o h = record {
  boot_memory = h.boot_memory ∙ ap (λ (x : Booted). x.memory) o.booted;
  budget = h.budget ∙ ap (λ (x : Booted). x.budget) o.booted;
  log = longer a.log b.log s.log o.log h.log;
  within = subst (λ (x : Booted). issued s.log ≤ x.budget) o.booted h.within;
  at_end = h.at_end;
}

-- ---- a result that is a snapshot, or has one ----

pub ok_through : {A E : Type 0} (f : A → Snapped) (a b : Known) (r : Result A E) → GoesOnFrom a b
    → IfOk r (λ x. EndsFrom b (f x)) → IfOk r (λ x. EndsFrom a (f x))
ok_through f a b (Ok x) o h = ends_through a b (f x) o h
ok_through f a b (Err k) o h = tt

pub ok_ending : {A E : Type 0} (f : A → Snapped) (a b : Known) (s : Result Snapped E) (r : Result A E)
    → GoesOnFrom a b → IfOk s (λ x. EndsFrom b x) → IfOk r (λ x. s ≡ Ok (f x)) → IfOk r (λ x. EndsFrom a (f x))
ok_ending f a b s (Ok x) o h e =
    ends_through a b (f x) o (subst (λ t. IfOk t (λ x. EndsFrom b x)) e h)
ok_ending f a b s (Err k) o h e = tt
