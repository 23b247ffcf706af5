-- Types that pages show are compared.
use Rattle.std.proofs.Common.{◌≡◌, true, Option, Some, None, ap, subst, refl}
use Rattle.mt_regs.specs.declared.page_type.PageType.{PageType}
use Rattle.mt_regs.specs.declared.page_type.PageType.TheVariants.{Kind, Undefined}
use Rattle.mt_trie.proofs.Joins.{is_type-true, is_type_self}
use Rattle.mt_regs.specs.PageTypes.{same_page_type}
use Rattle.mt_explain.specs.TypeChanges.{is_same_type}

page_types_equal : (a b : PageType) → same_page_type a b ≡ true → a ≡ b
page_types_equal (Kind t) (Kind u) same = ap (λ k. Kind k) (is_type-true t u same)
page_types_equal (Kind t) Undefined same = absurd (cc same)
page_types_equal Undefined (Kind u) same = absurd (cc same)
page_types_equal Undefined Undefined same = refl

page_type_itself : (a : PageType) → same_page_type a a ≡ true
page_type_itself (Kind t) = is_type_self t
page_type_itself Undefined = refl

pub types_equal : (a b : Option PageType) → is_same_type a b ≡ true → a ≡ b
types_equal (Some t) (Some u) same = ap (λ (k : PageType). Some k) (page_types_equal t u same)
types_equal (Some t) None same = absurd (cc same)
types_equal None (Some u) same = absurd (cc same)
types_equal None None same = refl

type_itself : (a : Option PageType) → is_same_type a a ≡ true
type_itself (Some t) = page_type_itself t
type_itself None = refl

pub equal_types : (a b : Option PageType) → a ≡ b → is_same_type a b ≡ true
equal_types a b equal = let P : Option PageType → Type 0 = λ t. is_same_type a t ≡ true in subst P equal (type_itself a)
