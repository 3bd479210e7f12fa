use Rattle.std.proofs.lemmas.Grind.{common_steps}
use Rattle.std.proofs.Common.{◌≡◌, ◌<◌, ◌*◌, ◌∙◌, sym, ap, length, Option, None, ℕ, get_or, refl, arith, rules}
use Rattle.std.specs.Prelude.{is_some}
use Rattle.relocation.proofs.Saving.{length-saved_words, none_if, page_fits, page_made, page_stays}
use Rattle.relocation.proofs.Saving.{others_stay, page_there, saved_to_next, start_of}
use Rattle.relocation.proofs.saved.SavedPages.save_before_write.Goals as goal
use Rattle.relocation.proofs.saved.SavedPages.save_before_write.Goals.{After-index}

pub index-requires : goal.index-requires
index-requires c = grind (arith, length-saved_words)

-- the page begins within the memory
begins : (c : After-index) → c.loop-page.page * 256 < c.loop-page.self-inside.size
begins c = grind (arith, length-saved_words)

-- the value read is the start of the page's words
start : (c : After-index) → get_or c.loop-page.self-inside.starts.items c.loop-page.page None ≡ c.index.result.now
start c = grind (arith, common_steps, length-saved_words, start_of, begins, c.loop-page.invariant.0, c.index.ensures)

pub loop-page-preserved-then-is_some : goal.loop-page-preserved-then-is_some
loop-page-preserved-then-is_some c =
    let i = start ((goal.at.loop-page-preserved-then-is_some c).After-index) in
    let there = ap (λ (o : Option ℕ). is_some o) i ∙ sym c.is_some.ensures ∙ c.if-is_some.true in (
      c.loop-page.invariant.0,
      saved_to_next c.args.self.now _ _ c.args.memory.now c.args.from c.loop-page.page c.loop-page.invariant.1
          (page_stays _ c.args.memory.now c.loop-page.page
          (page_there c.loop-page.self-inside.starts.items c.loop-page.self-inside.words.items c.loop-page.self-inside.size
          c.loop-page.page _ refl there)) (omega (arith, c.loop-page.auto.page)),
    )

pub append-requires-clause-range : goal.append-requires-clause-range
append-requires-clause-range c =
    let b = begins ((goal.at.append-requires-clause-range c).After-index) in omega (arith, b, c.min-end.ensures)

pub append-requires-clause-within : goal.append-requires-clause-within
append-requires-clause-within c = grind (arith, length-saved_words)

pub index_mut-requires : goal.index_mut-requires
index_mut-requires c = search (rules, begins, c.loop-page.invariant.0.pages)

pub loop-page-preserved : goal.loop-page-preserved
loop-page-preserved c =
    let d = (goal.at.loop-page-preserved c).After-index in
    let s = length-saved_words c.loop-page.self-inside.starts.items c.loop-page.self-inside.words.items
    c.loop-page.self-inside.size in
    let none = start d ∙ none_if c.index.result.now (sym c.is_some.ensures ∙ c.if-is_some.false) in
    let b = begins d in
    let m : length c.args.memory.now ≡ c.loop-page.self-inside.size =
    omega (arith, s, c.loop-page.invariant.1.len, c.requires.size) in (
      page_fits c.loop-page.self-inside.starts.items c.loop-page.self-inside.words.items c.args.memory.now _
          c.loop-page.self-inside.size c.loop-page.page c.len-start.result c.min-end.result c.append.new.words.items _
          c.loop-page.invariant.0 m b none (c.len-start.ensures ∙ c.loop-page.self-inside.words.ok.0) c.min-end.ensures
          c.append.ensures.items c.append.ensures.capacity,
      saved_to_next c.args.self.now _ _ c.args.memory.now c.args.from c.loop-page.page c.loop-page.invariant.1
          (page_made c.loop-page.self-inside.starts.items c.loop-page.self-inside.words.items c.args.memory.now _
          c.loop-page.self-inside.size c.loop-page.page c.len-start.result c.min-end.result _ c.append.new.words.items
          c.loop-page.invariant.0 refl (omega (arith, s, m)) (omega (arith, s, b)) none
          (c.len-start.ensures ∙ c.loop-page.self-inside.words.ok.0) c.min-end.ensures c.append.ensures.items)
          (omega (arith, c.loop-page.auto.page)),
    )

pub returns-clause-only : goal.returns-clause-only
returns-clause-only c = λ a l other.
    others_stay c.args.self.now _ c.args.memory.now c.args.from c.args.count c.loop-page.page a c.loop-page.invariant.1
    (omega (arith, c.if-count-eq0.false)) (omega (arith, c.loop-page.auto.page-end)) l other
