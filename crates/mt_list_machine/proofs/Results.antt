-- What clauses say of a result that is no error.
use Rattle.std.proofs.Common.{◌≡◌, ◌∙◌, ap}
use Rattle.std.specs.Prelude.{IfOk, OnOk, Result, Ok, Err}

pub if_ok : {T E : Type 0} (P Q : T → Type 0) → ((x : T) → P x → Q x) → (r : Result T E) → IfOk r P → IfOk r Q
if_ok P Q f (Ok x) h = f x h
if_ok P Q f (Err e) h = tt

pub if_ok_thrice : {T E : Type 0} (P Q R S : T → Type 0) → ((x : T) → P x → Q x → R x → S x) → (r : Result T E) → IfOk r P → IfOk r Q → IfOk r R → IfOk r S
if_ok_thrice P Q R S f (Ok x) a b c = f x a b c
if_ok_thrice P Q R S f (Err e) a b c = tt

pub on_ok : {T E : Type 0} {A B : Type 0} → (A → B) → (r : Result T E) → OnOk r A → OnOk r B
on_ok f (Ok x) h = f h
on_ok f (Err e) h = tt

pub on_both : {T E : Type 0} {A B C : Type 0} → (A → B → C) → (r : Result T E) → OnOk r A → OnOk r B → OnOk r C
on_both f (Ok x) a b = f a b
on_both f (Err e) a b = tt

-- three steps, one behind the other
pub in_turn : {S : Type 0} (f g h : S → S) (a b c d : S) → b ≡ h a → c ≡ g b → d ≡ f c → d ≡ f (g (h a))
in_turn f g h a b c d first second third = third ∙ ap f (second ∙ ap g first)
