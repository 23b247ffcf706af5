use Rattle.std.proofs.Common.{◌≡◌, ◌≤◌, ◌<◌, ◌+◌, ℕ, List, ◌∷◌, length, drop, refl, sym, ◌∙◌, ap, subst, arith}
use Rattle.std.proofs.Math.Seq.{drop-length}
use Rattle.std.proofs.lemmas.List.{length-drop}
use Rattle.mt_text.specs.Lines.{TakesFirst}
use Rattle.mt_text.specs.Text.{lines_of}
use Rattle.mt_text.specs.declared.line.Line.{Line}
use Rattle.mt_text.proofs.lines.Lines.next_line.Goals as goal

takes_first : (source : List ℕ) (at number : ℕ) (line : Line) → lines_of (drop at source) ≡ line.bytes.now ∷ lines_of (drop line.next source)
    → (line.offset ≡ at) × (line.number ≡ number) × (at < line.next) × (line.next ≤ length source)
    → TakesFirst (record { offset = at; number = number; bytes = drop at source }) (record { offset = line.next; number = number + 1; bytes = drop line.next source }) line
takes_first source at number line lines rest = record {
  lines = lines;
  offset = rest.0;
  number = rest.1;
  next_offset = refl;
  next_number = refl;
  moves = rest.2;
  end = omega (arith, length-drop {A = ℕ} line.next source, length-drop {A = ℕ} at source, rest.2, rest.3);
}

pub returns-in_default-clause-first : goal.returns-in_default-clause-first
returns-in_default-clause-first c =
    let past = c.in_default.ensures.none.0 refl in
    (ap (λ s. s.bytes) (sym c.self.view_is) ∙ ap (λ n. drop n c.self.inside.source.now) past ∙ drop-length c.self.inside.source.now, refl)

pub returns-clause-first : goal.returns-clause-first
returns-clause-first c =
    let line = c.in-Some.line in
    subst (λ old. TakesFirst old (record { offset = line.next; number = c.self.inside.number + 1; bytes = drop line.next c.self.inside.source.now }) line) c.self.view_is
    (takes_first c.self.inside.source.now c.self.inside.at c.self.inside.number line c.in-Some.ensures.lines c.in-Some.ensures.rest)
