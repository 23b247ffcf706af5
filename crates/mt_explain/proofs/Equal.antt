-- Equal pairs, and groups of equal files.
use Rattle.std.proofs.Common.{◌≡◌, ◌∙◌, ℕ, ◌<◌, List, sym, ap, inl, inr, arith}
use Rattle.std.specs.Prelude.{◌&&◌, ◌==◌, slice_get}
use Rattle.std.specs.Bool.{Decides}
use Rattle.std.proofs.lemmas.Bool.{cases_lt}
use Rattle.std.proofs.lemmas.Bool.Decides.{Decides-and, Decides-eqb, Decides-like}
use Rattle.mt_regs.specs.RegisterFile.{RegisterFile}
use Rattle.mt_explain.specs.Groups.{AreEqualAt, IsFirstEqual}

pub same_pair : (p q : ℕ × ℕ) → Decides (p.0 == q.0 && p.1 == q.1) (p ≡ q)
same_pair p q = Decides-like (p.0 == q.0 && p.1 == q.1) (λ same i. (same.0 i, same.1 i)) (λ is. (ap (λ x. x.0) is, ap (λ x. x.1) is)) (Decides-and _ _ (Decides-eqb p.0 q.0) (Decides-eqb p.1 q.1))

-- the first equal one of equal files is one
no_earlier : (files : List RegisterFile) (i j a b : ℕ) → IsFirstEqual files i a → IsFirstEqual files j b → AreEqualAt files i j → a < b → ⊥
no_earlier files i j a b first second same less = second.before a less (first.equal ∙ same)

pub one_group : (files : List RegisterFile) (i j a b : ℕ) → IsFirstEqual files i a → IsFirstEqual files j b → AreEqualAt files i j → a ≡ b
one_group files i j a b first second same = elim (cases_lt a b) [
  | inl below ↦ absurd (no_earlier files i j a b first second same below)
  | inr past ↦ elim (cases_lt b a) [
    | inl above ↦ absurd (no_earlier files j i b a second first (sym same) above)
    | inr level ↦ omega (arith, past, level)
  ]
]

pub of_one_group : (files : List RegisterFile) (i j a b : ℕ) → IsFirstEqual files i a → IsFirstEqual files j b → a ≡ b → AreEqualAt files i j
of_one_group files i j a b first second same = sym first.equal ∙ ap (slice_get files) same ∙ second.equal
