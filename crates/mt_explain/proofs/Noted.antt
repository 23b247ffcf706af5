-- Notes one by one.
use Rattle.std.proofs.Common.{◌≡◌, ◌∙◌, ℕ, ◌+◌, Bool, true, false, List, [], ◌∷◌, ◌++◌, Option, sym, ap, map, append_assoc}
use Rattle.std.specs.Prelude.{is_some, not}
use Rattle.std.specs.List.{filter, range_with_len}
use Rattle.std.proofs.lemmas.List.Elements.{filter-append}
use Rattle.std.proofs.lemmas.List.FromFn.{filter_of_map_range_with_len_more}
use Rattle.mt_regs.specs.declared.fault.Fault.{Fault}
use Rattle.mt_regs.specs.RegisterFile.{RegisterFile}
use Rattle.mt_regs.specs.Faults.{IsFirstFault}
use Rattle.mt_regs.proofs.FirstFault.{is_first_fault}
use Rattle.mt_explain.specs.declared.note.Note.{Note}
use Rattle.mt_explain.specs.declared.note.Note.TheVariants.{OtherWidth}
use Rattle.mt_explain.specs.Notes.{is_accepted, widths}

-- a file without a first fault is accepted
pub accepted_is : (f : RegisterFile) (answer : Option Fault) (result : Bool) → IsFirstFault f answer → is_some answer ≡ not result → result ≡ is_accepted f
unfolding is_accepted
accepted_is f answer true first is = sym (ap not is) ∙ ap (λ (a : Option Fault). not (is_some a)) (is_first_fault f answer first)
accepted_is f answer false first is = sym (ap not is) ∙ ap (λ (a : Option Fault). not (is_some a)) (is_first_fault f answer first)

-- the notes among more candidates
pub with_more : (p : Note → Bool) (xs ys before after : List Note) → before ≡ filter p xs → after ≡ before ++ filter p ys → after ≡ filter p (xs ++ ys)
with_more p xs ys before after was is = is ∙ ap (λ (ns : List Note). ns ++ filter p ys) was ∙ sym (filter-append p xs ys)

pub more : (p : Note → Bool) (make : ℕ → Note) (from n j : ℕ) (start before after : List Note) → from + n ≡ j
    → before ≡ start ++ filter p (map make (range_with_len from n)) → after ≡ before ++ filter p (make j ∷ []) → after ≡ start ++ filter p (map make (range_with_len from (n + 1)))
more p make from n j start before after is was added =
    added ∙ ap (λ (xs : List Note). xs ++ filter p (make j ∷ [])) was ∙ append_assoc start (filter p (map make (range_with_len from n))) (filter p (make j ∷ []))
    ∙ ap (λ (xs : List Note). start ++ xs) (sym (filter_of_map_range_with_len_more p make from n j is))

pub all_widths : (p : Note → Bool) (start after : List Note) (i : ℕ) → i ≡ 21 → after ≡ start ++ filter p (map OtherWidth (range_with_len 32 i)) → after ≡ start ++ filter p (map OtherWidth widths)
unfolding widths
all_widths p start after i is was = was ∙ ap (λ k. start ++ filter p (map OtherWidth (range_with_len 32 k))) is
