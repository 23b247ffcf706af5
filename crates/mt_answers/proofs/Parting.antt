-- What the program's lines say of granules.
use Rattle.std.proofs.Common.{◌≡◌, ℕ, ◌^◌, ◌≤◌, List, [], ◌∷◌, ap, ◌∙◌, arith}
use Rattle.std.specs.List.{All, AllByRecursion}
use Rattle.std.proofs.lemmas.List.Elements.{All-from_recursion}
use Rattle.mt_types.specs.declared.run.Run.{Run}
use Rattle.mt_gran.specs.Granules.{TypedPages}
use Rattle.mt_gran.specs.Parts.{ArePartsOf, IsLostRun}
use Rattle.mt_answers.specs.Lines.{IsLine, too_few_line}

-- each part has a line
pub parts_have_lines : (m : TypedPages) (g : ℕ) (parts : List Run) → m.count ≤ 2 ^ 40 → ArePartsOf m g parts → All IsLine parts
parts_have_lines m g parts few are = All-from_recursion IsLine parts (each parts are.each)
  where
    each : (parts : List Run) → AllByRecursion (IsLostRun m g) parts → AllByRecursion IsLine parts
    each [] all = tt
    each (r ∷ rs) all = let part = all.0 in ((part.some, omega (arith, part.within, few)), each rs all.1)

pub too_few : (a b needs has : ℕ) → a ≡ needs → b ≡ has → (text : List ℕ) → text ≡ too_few_line a b → text ≡ too_few_line needs has
too_few a b needs has first second text is = is ∙ ap (λ (n : ℕ). too_few_line n b) first ∙ ap (λ (n : ℕ). too_few_line needs n) second
