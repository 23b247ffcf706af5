use Rattle.std.proofs.Common.{◌≡◌, length, refl, ap, inl, inr, arith}
use Rattle.mt_import_laws.proofs.worked.worked_returns.Goals as goal

pub returns : goal.returns
returns c = record {
  meets = (inr (record { is = refl; ends_without = refl; not_longest = λ e. omega (arith, e) }), (inl refl, tt));
  stays = λ gets. let e : 1 ≡ 2 = ap length gets.is in omega (arith, e);
  second = λ gets. let e : 1 ≡ 2 = ap length gets.ends_without in omega (arith, e);
  longest = λ line longer same gets. gets.not_longest same;
}
