-- The test of two files tells whether they are equal.
use Rattle.std.proofs.Common.{◌≡◌, ℕ, ap, refl}
use Rattle.std.specs.Bool.{Decides}
use Rattle.std.proofs.lemmas.Bool.Decides.{Decides-and, Decides-eqb, Decides-like}
use Rattle.std.proofs.lemmas.Slice.Eq.{slice_eq-Decides}
use Rattle.mt_regs.specs.RegisterFile.{RegisterFile}
use Rattle.mt_replay.specs.Texts.{is_same_file, is_same_pair}

same_pair : (p q : ℕ × ℕ) → Decides (is_same_pair p q) (p ≡ q)
same_pair p q = Decides-like (is_same_pair p q) (λ same i. (same.0 i, same.1 i)) (λ is. (ap (λ x. x.0) is, ap (λ x. x.1) is)) (Decides-and _ _ (Decides-eqb p.0 q.0) (Decides-eqb p.1 q.1))

pub same_file : (f g : RegisterFile) → Decides (is_same_file f g) (f ≡ g)
same_file f g =
    Decides-like (is_same_file f g)
    (λ (((((width, capabilities), pairs), fixed), pat), default_type) i. record {
      width = width i;
      capabilities = capabilities i;
      pairs = pairs i;
      fixed = fixed i;
      pat = pat i;
      default_type = default_type i;
    })
    (λ is. (((((ap (λ x. x.width) is, ap (λ x. x.capabilities) is), ap (λ x. x.pairs) is), ap (λ x. x.fixed) is), ap (λ x. x.pat) is), ap (λ x. x.default_type) is))
    (Decides-and _ _
    (Decides-and _ _
    (Decides-and _ _
    (Decides-and _ _
    (Decides-and _ _ (Decides-eqb f.width g.width) (Decides-eqb f.capabilities g.capabilities))
    (slice_eq-Decides same_pair f.pairs g.pairs _ refl))
    (slice_eq-Decides Decides-eqb f.fixed g.fixed _ refl))
    (Decides-eqb f.pat g.pat))
    (Decides-eqb f.default_type g.default_type))
