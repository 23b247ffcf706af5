-- What the known lines of a front tell is a front of what the whole text tells.
use Rattle.std.proofs.Common.{◌≡◌, ◌∙◌, ap, sym, refl, subst, arith, inl, inr, ℕ, ◌+◌, ◌<◌, nat_lt, Bool, true, false, List, [], ◌∷◌, ◌++◌, length, Option, None, Some, Result, Ok, Err, append_assoc, append-nil}
use Rattle.std.specs.Prelude.{◌⊎◌}
use Rattle.std.specs.List.{list_any, onto_first}
use Rattle.std.proofs.lemmas.Bool.{cases_Bool}
use Rattle.std.proofs.lemmas.Bool.Decides.{nat_tests}
use Rattle.mt_ports.specs.declared.status.Status.TheVariants.{BadText, Done}
use Rattle.mt_text.specs.Text.{is_line_end, lines_of, end_of}
use Rattle.mt_text.specs.Feed.{known_front}
use Rattle.mt_text.specs.declared.place.Place.{Place}
use Rattle.mt_text.proofs.Fronts.{reach}
use Rattle.mt_text.proofs.LineSteps.{lines_of-first}
use Rattle.mt_stream.specs.Known.{known_part, known_text}
use Rattle.mt_stream.specs.Laws.{IsLongTold}
use Rattle.mt_stream.specs.Transcript.{LineStep, Telling, Transcript, behind, transcript_with, told_from, told_step, telling, transcript}
use Rattle.mt_stream.proofs.Fronts.{long_lines, some_any}

-- ---- lists of lines

-- The lines of the one are those of the other, up to a last one that is too long in both.
abbrev Agree : List (List ℕ) → List (List ℕ) → Type 0
Agree [] ls = Unit {0}
Agree (k ∷ ks) [] = ⊥
Agree (k ∷ ks) (l ∷ ls) = ((k ≡ l) × Agree ks ls) ⊎ ((4096 < length k) × (4096 < length l))

known_some : (bytes : List ℕ) → list_any is_line_end bytes ≡ true → (line : List ℕ) × (lines : List (List ℕ)) × (lines_of (known_part bytes) ≡ line ∷ lines)
known_some [] any = cc any
known_some (x ∷ xs) any =
    let known : known_part (x ∷ xs) ≡ x ∷ known_part xs = rw any refl in
    (_, _, ap lines_of known ∙ lines_of-first x (known_part xs))

agree_onto : (x : ℕ) (ks ls : List (List ℕ)) (line : List ℕ) (lines : List (List ℕ)) → ks ≡ line ∷ lines → Agree ks ls → Agree (onto_first x ks) (onto_first x ls)
agree_onto x [] ls line lines is agree = cc is
agree_onto x (k ∷ ks) [] line lines is agree = absurd agree
agree_onto x (k ∷ ks) (l ∷ ls) line lines is (inl same) = inl (ap (λ m. x ∷ m) same.0, same.1)
agree_onto x (k ∷ ks) (l ∷ ls) line lines is (inr long) = inr (omega (arith, long.0), omega (arith, long.1))

long_agree : (bytes more : List ℕ) → list_any is_line_end bytes ≡ false → 4096 < length bytes → Agree (lines_of bytes) (lines_of (bytes ++ more))
long_agree bytes more none long = by (nat_lt (reach bytes) (length bytes)) refl
  where
    far : nat_lt 4096 (length bytes) ≡ true
    far = grind (arith, nat_tests, long)

    by : (found : Bool) → nat_lt (reach bytes) (length bytes) ≡ found → Agree (lines_of bytes) (lines_of (bytes ++ more))
    by true found = let e : false ≡ true = sym none ∙ some_any bytes (grind (arith, nat_tests, found)) in absurd (cc e)
    by false found =
        let known : known_front bytes ≡ Some (4097, false) = rw found (rw far refl) in
        let alone = (long_lines bytes [] 4097 known).0 in
        let all = (long_lines bytes more 4097 known).0 in
        let first : lines_of bytes ≡ alone.line ∷ alone.others = ap lines_of (sym (append-nil bytes)) ∙ alone.lines in
        rw (first, all.lines) (inr (alone.long, all.long))

agrees : (bytes more : List ℕ) → Agree (lines_of (known_part bytes)) (lines_of (bytes ++ more))
agrees [] more = tt
agrees (x ∷ xs) more = by (list_any is_line_end (x ∷ xs)) refl (nat_lt 4096 (length (x ∷ xs))) refl (agrees xs more)
  where
    by : (any : Bool) → list_any is_line_end (x ∷ xs) ≡ any → (long : Bool) → nat_lt 4096 (length (x ∷ xs)) ≡ long → Agree (lines_of (known_part xs)) (lines_of (xs ++ more)) → Agree (lines_of (known_part (x ∷ xs))) (lines_of ((x ∷ xs) ++ more))
    by true any long far later =
        let known : known_part (x ∷ xs) ≡ x ∷ known_part xs = rw any refl in
        rw known (elim (cases_Bool (is_line_end x)) [
          | inl hit ↦ rw hit (inl (refl, later))
          | inr miss ↦
              let others : list_any is_line_end xs ≡ true = rw miss at any in
              let some = known_some xs others in
              rw miss (agree_onto x (lines_of (known_part xs)) (lines_of (xs ++ more)) some.0 some.1 some.2 later)
        ])
    by false any true far later =
        let known : known_part (x ∷ xs) ≡ x ∷ xs = rw any (rw far refl) in
        rw known (long_agree (x ∷ xs) more any (grind (arith, nat_tests, far)))
    by false any false far later =
        let known : known_part (x ∷ xs) ≡ [] = rw any (rw far refl) in
        rw known tt

-- ---- texts

abbrev pub IsFrontOf : Transcript → Transcript → Type 0
IsFrontOf a b = (rest : List ℕ) × (b.text ≡ a.text ++ rest)

front_same : (t : Transcript) → IsFrontOf t t
front_same t = ([], sym (append-nil t.text))

front_behind : (text : List ℕ) (a b : Transcript) → IsFrontOf a b → IsFrontOf (behind text a) (behind text b)
front_behind text a b (rest, cut) = (rest, ap (λ l. text ++ l) cut ∙ sym (append_assoc text a.text rest))

front_of_both : (a b t : Transcript) → a ≡ t → b ≡ t → IsFrontOf a b
front_of_both a b t p q = subst (λ x. IsFrontOf x b) (sym p) (subst (IsFrontOf t) (sym q) (front_same t))

-- ---- by points

-- A line leads on to another point behind a text, or what is told ends with it.
abbrev pub LeadsOn : {P : Type 0} → (P → Telling) → (P → Type 0) → P → ℕ → List ℕ → Type 0
LeadsOn {P} tell sound p number line =
    ((text : List ℕ) × (next : P) × sound next × ((end : Option Place) (lines : List (List ℕ)) → tell p end number (line ∷ lines) ≡ behind text (tell next end (number + 1) lines)))
    ⊎ ((last : Transcript) × ((end : Option Place) (lines : List (List ℕ)) → tell p end number (line ∷ lines) ≡ last))

-- what lines tell from each point on goes line by line
pub record Walks {P : Type 0} (tell : P → Telling) (sound : P → Type 0) : Type 0 where
  pub unknown : (p : P) (number : ℕ) → tell p None number [] ≡ transcript_with [] Done
  pub leads : (p : P) (number : ℕ) (line : List ℕ) → sound p → LeadsOn tell sound p number line
  pub long : (p : P) (number : ℕ) → sound p → IsLongTold (tell p) number

module _ (P : Type 0) (tell : P → Telling) (sound : P → Type 0) (walks : Walks tell sound) where
  lines_front : (end : Place) (number : ℕ) (ks ls : List (List ℕ)) → Agree ks ls → (p : P) → sound p → IsFrontOf (tell p None number ks) (tell p (Some end) number ls)
  lines_front end number [] ls agree p good = subst (λ t. IsFrontOf t (tell p (Some end) number ls)) (sym (walks.unknown p number)) ((tell p (Some end) number ls).text, refl)
  lines_front end number (k ∷ ks) [] agree p good = absurd agree
  lines_front end number (k ∷ ks) (l ∷ ls) (inl same) p good =
      subst (λ m. IsFrontOf (tell p None number (k ∷ ks)) (tell p (Some end) number (m ∷ ls))) same.0 (by (walks.leads p number k good) (lines_front end (number + 1) ks ls same.1))
    where
      by : LeadsOn tell sound p number k → ((q : P) → sound q → IsFrontOf (tell q None (number + 1) ks) (tell q (Some end) (number + 1) ls)) → IsFrontOf (tell p None number (k ∷ ks)) (tell p (Some end) number (k ∷ ls))
      by (inl (text, next, well, goes)) later =
          subst (λ t. IsFrontOf t (tell p (Some end) number (k ∷ ls))) (sym (goes None ks))
          (subst (IsFrontOf (behind text (tell next None (number + 1) ks))) (sym (goes (Some end) ls)) (front_behind text (tell next None (number + 1) ks) (tell next (Some end) (number + 1) ls) (later next well)))
      by (inr (last, stops)) later = front_of_both (tell p None number (k ∷ ks)) (tell p (Some end) number (k ∷ ls)) last (stops None ks) (stops (Some end) ls)
  lines_front end number (k ∷ ks) (l ∷ ls) (inr long) p good =
      let t = walks.long p number good in
      front_of_both (tell p None number (k ∷ ks)) (tell p (Some end) number (l ∷ ls)) t.telling (t.is k None ks long.0) (t.is l (Some end) ls long.1)

  pub known_is_front : (p : P) → sound p → (front more : List ℕ) → (rest : List ℕ) × ((transcript (tell p) (front ++ more)).text ≡ known_text (tell p) front ++ rest)
  known_is_front p good front more = lines_front (end_of (front ++ more)) 1 (lines_of (known_part front)) (lines_of (front ++ more)) (agrees front more) p good

-- ---- by steps

-- each step tells a line too long as one offence, whatever its bytes are
pub record TellsLong {P : Type 0} (step : LineStep P) (offence : ℕ → P → Transcript) : Type 0 where
  pub long : (number : ℕ) (line : List ℕ) (p : P) → 4096 < length line → step number line p ≡ Err (offence number p)
  pub bad : (number : ℕ) (p : P) → (offence number p).status ≡ BadText

module _ (P : Type 0) (step : LineStep P) (ends : Place → P → Transcript) where
  -- a step that goes on, and one that ends the transcript
  pub step_goes : (number : ℕ) (line text : List ℕ) (p next : P) → step number line p ≡ Ok (text, next) → (end : Option Place) (lines : List (List ℕ))
      → telling step ends p end number (line ∷ lines) ≡ behind text (telling step ends next end (number + 1) lines)
  step_goes number line text p next is (Some end) lines = ap (told_step (told_from step (ends end) (number + 1) lines)) is
  step_goes number line text p next is None lines = ap (told_step (told_from step (λ last. transcript_with [] Done) (number + 1) lines)) is

  pub step_ends : (number : ℕ) (line : List ℕ) (p : P) (last : Transcript) → step number line p ≡ Err last → (end : Option Place) (lines : List (List ℕ)) → telling step ends p end number (line ∷ lines) ≡ last
  step_ends number line p last is (Some end) lines = ap (told_step (told_from step (ends end) (number + 1) lines)) is
  step_ends number line p last is None lines = ap (told_step (told_from step (λ last. transcript_with [] Done) (number + 1) lines)) is

  module _ (offence : ℕ → P → Transcript) (tells : TellsLong step offence) where
    pub long_told : (p : P) (number : ℕ) → IsLongTold (telling step ends p) number
    long_told p number = record {
      telling = offence number p;
      bad = tells.bad number p;
      is = λ line end lines long. step_ends number line p (offence number p) (tells.long number line p long) end lines;
    }

    pub steps_walk : Walks (telling step ends) (λ p. Unit {0})
    steps_walk = record { unknown = λ p number. refl; leads = λ p number line good. by p number line (step number line p) refl; long = λ p number good. long_told p number }
      where
        by : (p : P) (number : ℕ) (line : List ℕ) (answer : Result (List ℕ × P) Transcript) → step number line p ≡ answer → LeadsOn (telling step ends) (λ q. Unit {0}) p number line
        by p number line (Ok (text, next)) is = inl (text, next, tt, step_goes number line text p next is)
        by p number line (Err last) is = inr (last, step_ends number line p last is)
