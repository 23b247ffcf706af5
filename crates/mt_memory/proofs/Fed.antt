-- How a line leads a reader on, and that what is behind 4,097 bytes of a line doesn't matter.
use Rattle.std.proofs.Common.{◌≡◌, ◌+◌, ◌≤◌, ◌<◌, ℕ, Bool, false, List, ◌∷◌, length, take, refl, sym, subst, ◌∙◌, ap, arith, inl, inr}
use Rattle.std.specs.Prelude.{Result, Ok, Err, IsTrue, ◌↔◌}
use Rattle.std.proofs.lemmas.Bool.{cases_lt}
use Rattle.std.proofs.lemmas.Bool.Decides.{nat_tests}
use Rattle.mt_text.specs.Reader.{TakesLine}
use Rattle.mt_text.specs.Text.{is_too_long}
use Rattle.mt_text.specs.Words.{FirstWords, first_words}
use Rattle.mt_text.specs.declared.line.Line.{Line}
use Rattle.mt_text.specs.declared.place.Place.{Place}
use Rattle.mt_text.proofs.Lent.{is_short, same_front}
use Rattle.mt_memory.specs.Log.{State, taken}
use Rattle.mt_memory.specs.MapText as map
use Rattle.mt_memory.specs.Steps.{Becomes, Leads, Step, and_then, run_from}
use Rattle.mt_memory.specs.declared.map_fault.MapTextFault.{MapTextFault}
use Rattle.mt_memory.specs.declared.own_text.MapReader.{MapReader}

module _ {S A F : Type 0} (step : Step S F) (ends : S → Place → Result A F) (cut : (s : S) (number : ℕ) (line : List ℕ) → step s number (take 4097 line) ≡ step s number line)
    (short : (s next : S) (number : ℕ) (line : List ℕ) → step s number line ≡ Ok next → length line ≤ 4096) where
  pub takes_line : {U : Type 0} (old new : S) (line : Line) (result : Result U F) → Becomes (step old line.number line.bytes.now) new result → TakesLine (Leads step ends) old new line result
  takes_line old new line (Ok value) is course whole led front =
      let here = sym (ap (step old line.number) front ∙ cut old line.number whole) ∙ is in
      (short old new line.number whole here, λ lines end. led (whole ∷ lines) end ∙ ap (λ s. and_then s (λ next. run_from step ends next (line.number + 1) lines end)) here)
  takes_line old new line (Err fault) is course whole led front = λ lines end.
      let here = sym (ap (step old line.number) front ∙ cut old line.number whole) ∙ is in
      led (whole ∷ lines) end ∙ ap (λ s. and_then s (λ next. run_from step ends next (line.number + 1) lines end)) here

-- ---- of a log

pub log_short : (s next : State) (number : ℕ) (line : List ℕ) → taken s number line ≡ Ok next → length line ≤ 4096
log_short s next number line is = is_short line (λ far. let e = rw far at is in cc e)

pub log_cut : (s : State) (number : ℕ) (line : List ℕ) → taken s number (take 4097 line) ≡ taken s number line
log_cut s number line = same_front (taken s number) line (λ far cut. rw (far, cut) refl)

-- ---- of a map's text

pub map_short : (s next : MapReader) (number : ℕ) (line : List ℕ) → map.taken s number line ≡ Ok next → length line ≤ 4096
map_short s next number line is = is_short line (λ far. let e = rw far at is in cc e)

pub map_cut : (s : MapReader) (number : ℕ) (line : List ℕ) → map.taken s number (take 4097 line) ≡ map.taken s number line
map_cut s number line = same_front (map.taken s number) line (λ far cut. rw (far, cut) refl)

pub not_long : (line : List ℕ) (long : Bool) → (IsTrue long ↔ (4096 < length line)) → long ≡ false → is_too_long line ≡ false
not_long line long same none = elim (cases_lt 4096 (length line)) [
  | inl many ↦ let hit = same.1 many in absurd (cc (hit, none))
  | inr few ↦ grind (arith, nat_tests, few)
]

pub words_taken : {U : Type 0} (s new : MapReader) (number : ℕ) (line : List ℕ) (words : FirstWords) (result : Result U MapTextFault) → is_too_long line ≡ false → words ≡ first_words number line
    → Becomes (map.by_words s words.number words.words) new result → Becomes (map.taken s number line) new result
words_taken s new number line words result short is becomes =
    let here : map.by_words s number (first_words number line).words ≡ map.taken s number line = rw short refl in
    subst (λ (expected : Result MapReader MapTextFault). Becomes expected new result) (ap (λ (w : FirstWords). map.by_words s w.number w.words) is ∙ here) becomes
