-- Many texts that go through a writer, one after the other.
use Rattle.std.proofs.Common.{◌≡◌, ℕ, List, [], ◌++◌, Option, Result, Ok, Err, refl, sym, ap, ◌∙◌, subst, append_assoc, append-nil}
use Rattle.std.proofs.KnownBytes.{Appends-nil, Appends-trans}
use Rattle.mt_ports.specs.Puts.{AppendsFront}
use Rattle.mt_output.specs.Writing.{Adds, PassesOn}
use Rattle.mt_output.specs.Ports.{change}

-- nothing was written
pub passes_nothing : (waiting : List ℕ) (known : Option (List ℕ)) → PassesOn waiting [] waiting known known
passes_nothing waiting known = record { front = []; cut = append-nil waiting; taken = Appends-nil known }

-- two texts are one
pub passes_both : (waiting first middle second left : List ℕ) (a b c : Option (List ℕ))
    → PassesOn waiting first middle a b → PassesOn middle second left b c → PassesOn waiting (first ++ second) left a c
passes_both waiting first middle second left a b c p q = record {
  front = p.front ++ q.front;
  cut = sym (append_assoc waiting first second) ∙ ap (λ (l : List ℕ). l ++ second) p.cut ∙ append_assoc p.front middle second
      ∙ ap (λ (l : List ℕ). p.front ++ l) q.cut ∙ sym (append_assoc p.front q.front left);
  taken = Appends-trans a b c p.front q.front p.taken q.taken;
}

-- a front of a text is one of a longer text
pub front_of_longer : (text rest : List ℕ) (a b : Option (List ℕ)) → AppendsFront a b text → AppendsFront a b (text ++ rest)
front_of_longer text rest a b (front, back, cut, taken) =
    (front, back ++ rest, ap (λ (l : List ℕ). l ++ rest) cut ∙ append_assoc front back rest, taken)

-- a text that failed, as the first part of a longer text
pub fails_longer : (waiting first second : List ℕ) (a b : Option (List ℕ)) → AppendsFront a b (waiting ++ first) → AppendsFront a b (waiting ++ (first ++ second))
fails_longer waiting first second a b failed =
    subst (AppendsFront a b) (append_assoc waiting first second) (front_of_longer (waiting ++ first) second a b failed)

-- what was passed is a front of what waited and the text, whatever is written then
pub passes_front : (waiting text left rest : List ℕ) (a b : Option (List ℕ)) → PassesOn waiting text left a b → AppendsFront a b (waiting ++ text ++ rest)
passes_front waiting text left rest a b p = front_of_longer (waiting ++ text) rest a b (p.front, left, p.cut, p.taken)

-- a text was passed, and then another failed
pub fails_after : (waiting first middle second rest : List ℕ) (a b c : Option (List ℕ))
    → PassesOn waiting first middle a b → AppendsFront b c (middle ++ second) → AppendsFront a c (waiting ++ first ++ second ++ rest)
fails_after waiting first middle second rest a b c p (front, back, cut, taken) =
    front_of_longer (waiting ++ first ++ second) rest a c (
      p.front ++ front,
      back,
      ap (λ (l : List ℕ). l ++ second) p.cut ∙ append_assoc p.front middle second ∙ ap (λ (l : List ℕ). p.front ++ l) cut ∙ sym (append_assoc p.front front back),
      Appends-trans a b c p.front front p.taken taken,
    )

-- a text was passed, and then another was added or failed
pub adds_after : {T E : Type 0} (waiting first middle second left : List ℕ) (a b c : Option (List ℕ)) (result : Result T E)
    → PassesOn waiting first middle a b → Adds second (change middle left) (change b c) result → Adds (first ++ second) (change waiting left) (change a c) result
adds_after waiting first middle second left a b c (Ok done) p q = passes_both waiting first middle second left a b c p q
adds_after waiting first middle second left a b c (Err error) p q =
    subst (AppendsFront a c) (append-nil (waiting ++ first ++ second) ∙ append_assoc waiting first second) (fails_after waiting first middle second [] a b c p q)

-- ---- a text in parts

-- A part of a text was passed on, and these bytes of it weren't yet.
pub record HasPassed (whole rest waiting left : List ℕ) (before after : Option (List ℕ)) : Type 0 where
  pub text : List ℕ
  pub cut : whole ≡ text ++ rest
  pub passed : PassesOn waiting text left before after

pub none_passed : (whole waiting : List ℕ) (known : Option (List ℕ)) → HasPassed whole whole waiting waiting known known
none_passed whole waiting known = record { text = []; cut = refl; passed = passes_nothing waiting known }

-- the next part
module _ (whole rest part later waiting middle : List ℕ) (a b c : Option (List ℕ)) (next : rest ≡ part ++ later) (has : HasPassed whole rest waiting middle a b) where
  further : whole ≡ (has.text ++ part) ++ later
  further = has.cut ∙ ap (λ (l : List ℕ). has.text ++ l) next ∙ sym (append_assoc has.text part later)

  pub part_passed : (left : List ℕ) → PassesOn middle part left b c → HasPassed whole later waiting left a c
  part_passed left passed = record { text = has.text ++ part; cut = further; passed = passes_both waiting has.text middle part left a b c has.passed passed }

  pub part_failed : AppendsFront b c (middle ++ part) → AppendsFront a c (waiting ++ whole)
  part_failed failed =
      let joined : ((waiting ++ has.text) ++ part) ++ later ≡ waiting ++ whole =
      ap (λ (l : List ℕ). l ++ later) (append_assoc waiting has.text part) ∙ append_assoc waiting (has.text ++ part) later ∙ ap (λ (l : List ℕ). waiting ++ l) (sym further) in
      subst (AppendsFront a c) joined (fails_after waiting has.text middle part later a b c has.passed failed)

pub all_passed : (whole rest waiting left : List ℕ) (a b : Option (List ℕ)) → rest ≡ [] → HasPassed whole rest waiting left a b → PassesOn waiting whole left a b
all_passed whole rest waiting left a b none has = subst (λ (l : List ℕ). PassesOn waiting l left a b) (sym (has.cut ∙ ap (λ (l : List ℕ). has.text ++ l) none ∙ append-nil has.text)) has.passed
