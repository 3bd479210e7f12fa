-- The writer of each register, after some are set.
use Rattle.std.proofs.Common.{◌≡◌, ◌<◌, ℕ, true, cond, List, [], ◌∷◌, Option, None, refl, ap, ◌∙◌, eqb}
use Rattle.std.proofs.Common.{get_or, set, length, arith}
use Rattle.std.proofs.lemmas.Bool.{eqb-true, eqb-false}
use Rattle.std.proofs.lemmas.List.{length-set, get_or-set_same, get_or-set_other}
use Rattle.instructions.specs.declared.instr.Reg.{Reg}
use Rattle.instructions.specs.declared.instr.Reg.TheVariants.{X, A, B}
use Rattle.instructions.specs.RegisterLists.{is_in}
use Rattle.instructions.specs.Operands.{reg_eq}
use Rattle.instructions.specs.Each.{Each}
use Rattle.scoreboard.specs.declared.writer.Writer.{Writer}
use Rattle.scoreboard.specs.declared.writers.Writers.{Writers}
use Rattle.scoreboard.specs.Writers.{IsRegister, writer_at, set_writer, set_each}

abbrev pub AreSized : Writers → Type 0
AreSized ws = (length ws.x ≡ 8) × (length ws.a ≡ 8) × (length ws.b ≡ 8)

pub reg_eq_same : (r s : Reg) → reg_eq r s ≡ true → r ≡ s
reg_eq_same (X m) (X n) h = ap X (eqb-true m n h)
reg_eq_same (A m) (A n) h = ap A (eqb-true m n h)
reg_eq_same (B m) (B n) h = ap B (eqb-true m n h)
reg_eq_same (X m) (A n) h = cc
reg_eq_same (X m) (B n) h = cc
reg_eq_same (A m) (X n) h = cc
reg_eq_same (A m) (B n) h = cc
reg_eq_same (B m) (X n) h = cc
reg_eq_same (B m) (A n) h = cc

get_set : (os : List (Option Writer)) (m n : ℕ) (o : Option Writer) → length os ≡ 8 → m < 8
    → get_or (set os m o) n None ≡ cond (eqb n m) o (get_or os n None)
get_set os m n o l b = search (arith, eqb-true, get_or-set_same, get_or-set_other, eqb-false)

pub set_gives : (ws : Writers) (s r : Reg) (o : Option Writer) → AreSized ws → IsRegister s
    → writer_at (set_writer ws s o) r ≡ cond (reg_eq r s) o (writer_at ws r)
unfolding writer_at set_writer
set_gives ws (X m) (X n) o l b = get_set ws.x m n o l.0 b
set_gives ws (X m) (A n) o l b = refl
set_gives ws (X m) (B n) o l b = refl
set_gives ws (A m) (X n) o l b = refl
set_gives ws (A m) (A n) o l b = get_set ws.a m n o l.1 b
set_gives ws (A m) (B n) o l b = refl
set_gives ws (B m) (X n) o l b = refl
set_gives ws (B m) (A n) o l b = refl
set_gives ws (B m) (B n) o l b = get_set ws.b m n o l.2 b

pub set_sized : (ws : Writers) (s : Reg) (o : Option Writer) → AreSized ws → AreSized (set_writer ws s o)
unfolding set_writer
set_sized ws (X m) o l = (length-set ws.x m o ∙ l.0, l.1, l.2)
set_sized ws (A m) o l = (l.0, length-set ws.a m o ∙ l.1, l.2)
set_sized ws (B m) o l = (l.0, l.1, length-set ws.b m o ∙ l.2)

pub each_sized : (rs : List Reg) (ws : Writers) (o : Option Writer) → AreSized ws → AreSized (set_each ws rs o)
each_sized [] ws o l = l
each_sized (r ∷ rs) ws o l = each_sized rs (set_writer ws r o) o (set_sized ws r o l)

pub each_gives : (rs : List Reg) (ws : Writers) (r : Reg) (o : Option Writer) → AreSized ws → Each IsRegister rs
    → writer_at (set_each ws rs o) r ≡ cond (is_in rs r) o (writer_at ws r)
unfolding is_in
each_gives [] ws r o l v = refl
each_gives (s ∷ rs) ws r o l v =
    grind (arith, each_gives rs (set_writer ws s o) r o (set_sized ws s o l) v.1, set_sized, set_gives)
