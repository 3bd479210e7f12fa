use Rattle.std.proofs.Common.{◌∙◌, ◌*◌, ap, refl, List, ℕ, Some, arith}
use Rattle.relocation.specs.Relocation.{overwritten}
use Rattle.relocation.proofs.Saving.{page_within, size_of, read_start}
use Rattle.relocation.proofs.Restoring.{IsPageRestored, page_unsaved, page_words, page_fits_back, page_back}
use Rattle.relocation.proofs.saved.SavedPages.restore_page.Goals as goal

pub index-requires : goal.index-requires
index-requires c = page_within c.self.inside.starts.items c.self.inside.words.items _ c.self.inside.size c.args.page _
    c.args.self.now c.self.invariant c.self.view_is c.requires.page c.self.inside.starts.ok.0

pub returns-in_default-clause-page : goal.returns-in_default-clause-page
returns-in_default-clause-page c = grind (arith, page_unsaved, read_start, page_within)

pub overflow_mul-from : goal.overflow_mul-from
overflow_mul-from c = grind (arith, size_of)

pub overflow_add-from : goal.overflow_add-from
overflow_add-from c = grind (arith, size_of)

pub overflow_sub-end : goal.overflow_sub-end
overflow_sub-end c = let s = size_of c.self.inside.starts.items c.self.inside.words.items c.self.inside.size
    c.args.self.now c.self.view_is in omega (arith, s, c.requires.page, c.min-end.ensures)

pub part-requires : goal.part-requires
part-requires c = page_words c.self.inside.starts.items c.self.inside.words.items _ c.self.inside.size c.args.page
    c.in-Some.start c.min-end.result c.args.self.now c.self.invariant c.self.view_is c.requires.page
    (read_start c.self.inside.starts.items c.args.page c.index.result.now (Some c.in-Some.start)
    (page_within c.self.inside.starts.items c.self.inside.words.items _ c.self.inside.size c.args.page _
    c.args.self.now c.self.invariant c.self.view_is c.requires.page
    refl) c.index.ensures c.in-Some.is) c.min-end.ensures

pub overwrite-requires : goal.overwrite-requires
overwrite-requires c = page_fits_back c.self.inside.starts.items c.self.inside.words.items c.args.before.now _
    c.self.inside.size c.args.page c.in-Some.start c.min-end.result c.args.self.now c.part.result.now c.self.invariant
    c.self.view_is c.requires.size c.requires.page
    (read_start c.self.inside.starts.items c.args.page c.index.result.now (Some c.in-Some.start)
    (page_within c.self.inside.starts.items c.self.inside.words.items _ c.self.inside.size c.args.page _
    c.args.self.now c.self.invariant c.self.view_is c.requires.page
    refl) c.index.ensures c.in-Some.is) c.min-end.ensures c.part.ensures

made : (c : goal.After-overwrite) → IsPageRestored c.args.self.now c.args.before.now c.overwrite.new.self c.args.page
made c = page_back c.self.inside.starts.items c.self.inside.words.items c.args.before.now _ c.self.inside.size
    c.args.page c.in-Some.start c.min-end.result c.args.self.now c.overwrite.new.self c.self.invariant c.self.view_is
    c.requires.size c.requires.page
    (read_start c.self.inside.starts.items c.args.page c.index.result.now (Some c.in-Some.start)
    (page_within c.self.inside.starts.items c.self.inside.words.items _ c.self.inside.size c.args.page _
    c.args.self.now c.self.invariant c.self.view_is c.requires.page
    refl) c.index.ensures c.in-Some.is) c.min-end.ensures
    (c.overwrite.ensures ∙ ap (λ (w : List ℕ). overwritten c.args.before.now (c.args.page * 256) w) c.part.ensures)

pub returns-clause-len : goal.returns-clause-len
returns-clause-len c = (made c).len

pub returns-clause-page : goal.returns-clause-page
returns-clause-page c = (made c).page_back

pub returns-clause-others : goal.returns-clause-others
returns-clause-others c = (made c).others
