-- A comment names each value that was assumed, and no other.
use Rattle.std.proofs.Common.{◌≡◌, ◌<◌, ℕ, zero, suc, Bool, true, false, ◌==◌, ◌&&◌, List, [], ◌∷◌, ◌++◌, Option, Some, None, refl, sym, ◌∙◌, ap, subst, inl, inr, arith, append_assoc}
use Rattle.std.specs.Prelude.{◌⊎◌, codes, decimal, is_none, if◌then◌else◌}
use Rattle.std.specs.List.{AllByRecursion, concat}
use Rattle.std.proofs.lemmas.Bool.{and_parts, eqb-true, eqb-false}
use Rattle.std.proofs.lemmas.List.{append-nil}
use Rattle.std.proofs.lemmas.List.Folds.{concat-append}
use Rattle.mt_import.specs.declared.shape.Known.{Known}
use Rattle.mt_import.specs.declared.shape.Slot.{Slot}
use Rattle.mt_import.specs.declared.supplied.Assumed.{Assumed}
use Rattle.mt_import.specs.Supplied.{Supplied}
use Rattle.mt_import.specs.Values.{assumed_of, assumed_pat, assumed_value, assumed_zero, firm_value, firm_width, has_pairs, is_fixed_number, is_pair_number, is_unshown, only_if, or_supplied, width_by}
use Rattle.mt_import.specs.Outcome.{Seen, Outcome, findings_of, firm_of, is_noted, is_value, known_by, needed, note_by, note_line, note_lines, noted, noted_of, number_if, processors, slot_shown, values_of, width_note}
use Rattle.mt_import.proofs.Parts.{noted_at}
use Rattle.mt_import.proofs.Same.{value_is}
use Rattle.mt_import_laws.specs.Notes.{AreNoted, AreTrueNotes, IsAssumedAlone, IsNoted, IsTrueNote, numbers_text, on_register, on_width}
use Rattle.mt_import_laws.specs.Origins.{HasOrigins, IsAmong}
use Rattle.mt_import_laws.proofs.TableLines.{all_join}

-- ---- a text within a text

record Contains (whole part : List ℕ) : Type 0 where
  before : List ℕ
  others : List ℕ
  is : whole ≡ before ++ (part ++ others)

within : (whole line part : List ℕ) → Contains whole line → Contains line part → Contains whole part
within whole line part outer inner = record {
  before = outer.before ++ inner.before;
  others = inner.others ++ outer.others;
  is = outer.is ∙ ap (λ (t : List ℕ). outer.before ++ (t ++ outer.others)) inner.is
      ∙ ap (λ (t : List ℕ). outer.before ++ t) (append_assoc inner.before (part ++ inner.others) outer.others ∙ ap (λ (t : List ℕ). inner.before ++ t) (append_assoc part inner.others outer.others))
      ∙ sym (append_assoc outer.before inner.before (part ++ (inner.others ++ outer.others)));
}

behind : (first whole part : List ℕ) → Contains whole part → Contains (first ++ whole) part
behind first whole part has = record { before = first ++ has.before; others = has.others; is = ap (λ (t : List ℕ). first ++ t) has.is ∙ sym (append_assoc first has.before (part ++ has.others)) }

in_front : (part rest : List ℕ) → Contains (part ++ rest) part
in_front part rest = record { before = []; others = rest; is = refl }

alone : (part : List ℕ) → Contains part part
alone part = record { before = []; others = []; is = sym (append-nil part) }

-- ---- the processors of a comment

numbers_append : (xs : List ℕ) (k : ℕ) → numbers_text (xs ++ k ∷ []) ≡ numbers_text xs ++ (codes " " ++ decimal k)
numbers_append [] k = append-nil (codes " " ++ decimal k)
numbers_append (x ∷ xs) k = ap (λ (t : List ℕ). (codes " " ++ decimal x) ++ t) (numbers_append xs k) ∙ sym (append_assoc (codes " " ++ decimal x) (numbers_text xs) (codes " " ++ decimal k))

among_more : (xs ys : List ℕ) (k : ℕ) → IsAmong k xs → IsAmong k (xs ++ ys)
among_more [] ys k among = absurd among
among_more (x ∷ xs) ys k (inl same) = inl same
among_more (x ∷ xs) ys k (inr later) = inr (among_more xs ys k later)

among_last : (xs : List ℕ) (k : ℕ) → IsAmong k (xs ++ k ∷ [])
among_last [] k = inl refl
among_last (x ∷ xs) k = inr (among_last xs k)

module _ (firm values : ℕ → ℕ → Option ℕ) (number : ℕ) where
  record Named (count value : ℕ) : Type 0 where
    named : List ℕ
    text : noted_of firm values count number value ≡ numbers_text named
    each : (k : ℕ) → k < count → is_noted firm values k number value ≡ true → IsAmong k named
    only : AllByRecursion (λ k. (k < count) × (is_noted firm values k number value ≡ true)) named

  abbrev AreNamed : ℕ → ℕ → List ℕ → Type 0
  AreNamed count value ks = AllByRecursion (λ k. (k < count) × (is_noted firm values k number value ≡ true)) ks

  more : (n value : ℕ) (ks : List ℕ) → AreNamed n value ks → AreNamed (suc n) value ks
  more n value [] all = tt
  more n value (k ∷ ks) all = let less = all.0.0 in ((omega (arith, less), all.0.1), more n value ks all.1)

  earlier : (a b : ℕ) → a < suc b → (a ≡ b → ⊥) → a < b
  earlier a b less apart = omega (arith, less, apart)

  next : (n value : ℕ) (test : Bool) → is_noted firm values n number value ≡ test → Named n value → Named (suc n) value
  next n value true is before = record {
    named = before.named ++ n ∷ [];
    text = ap (λ b. noted_of firm values n number value ++ number_if b n) is ∙ ap (λ (t : List ℕ). t ++ (codes " " ++ decimal n)) before.text ∙ sym (numbers_append before.named n);
    each = λ k less noted. by k less noted (k == n) refl;
    only = all_join (λ k. (k < suc n) × (is_noted firm values k number value ≡ true)) before.named (n ∷ []) (more n value before.named before.only) ((omega arith, is), tt);
  }
    where
      by : (k : ℕ) → k < suc n → is_noted firm values k number value ≡ true → (same : Bool) → (k == n) ≡ same → IsAmong k (before.named ++ n ∷ [])
      by k less noted true same = subst (λ j. IsAmong j (before.named ++ n ∷ [])) (sym (eqb-true k n same)) (among_last before.named n)
      by k less noted false apart = among_more before.named (n ∷ []) k (before.each k (earlier k n less (eqb-false k n apart)) noted)
  next n value false is before = record {
    named = before.named;
    text = ap (λ b. noted_of firm values n number value ++ number_if b n) is ∙ append-nil (noted_of firm values n number value) ∙ before.text;
    each = λ k less noted. by k less noted (k == n) refl;
    only = more n value before.named before.only;
  }
    where
      by : (k : ℕ) → k < suc n → is_noted firm values k number value ≡ true → (same : Bool) → (k == n) ≡ same → IsAmong k before.named
      by k less noted true same = let e : true ≡ false = sym noted ∙ ap (λ j. is_noted firm values j number value) (eqb-true k n same) ∙ is in cc e
      by k less noted false apart = before.each k (earlier k n less (eqb-false k n apart)) noted

  named_by : (count value : ℕ) → Named count value
  named_by zero value = record { named = []; text = refl; each = λ k less noted. absurd (omega (arith, less)); only = tt }
  named_by (suc n) value = next n value (is_noted firm values n number value) refl (named_by n value)

  -- ---- the first of the processors

  record First (count value : ℕ) : Type 0 where
    processor : ℕ
    unfirm : is_none (firm processor number) ≡ true
    has : values processor number ≡ Some value

  first_of : (count value : ℕ) → noted firm values count number ≡ Some value → First count value
  first_of zero value is = cc is
  first_of (suc n) value is = by (first_of n value) (noted firm values n number) refl is
    where
      here : (unfirm : Bool) → is_none (firm n number) ≡ unfirm → (if unfirm then values n number else None) ≡ Some value → First (suc n) value
      here true unfirm is = record { processor = n; unfirm = unfirm; has = is }
      here false unfirm is = cc is

      by : (noted firm values n number ≡ Some value → First n value) → (before : Option ℕ) → noted firm values n number ≡ before
          → or_supplied before (if is_none (firm n number) then values n number else None) ≡ Some value → First (suc n) value
      by sooner (Some other) before is = let found = sooner (before ∙ is) in record { processor = found.processor; unfirm = found.unfirm; has = found.has }
      by sooner None before is = here (is_none (firm n number)) refl is

  some_first : (count k value : ℕ) → k < count → is_none (firm k number) ≡ true → values k number ≡ Some value → noted firm values count number ≡ None → ⊥
  some_first zero k value less unfirm has none = omega (arith, less)
  some_first (suc n) k value less unfirm has none = by (λ below before. some_first n k value below unfirm has before) (noted firm values n number) refl none
    where
      here : k ≡ n → (if is_none (firm n number) then values n number else None) ≡ None → ⊥
      here same none =
          let u : is_none (firm n number) ≡ true = ap (λ j. is_none (firm j number)) (sym same) ∙ unfirm in
          let v : values n number ≡ Some value = ap (λ j. values j number) (sym same) ∙ has in
          let e : values n number ≡ None = rw u at none in
          cc (v, e)

      last : (k < n → noted firm values n number ≡ None → ⊥) → noted firm values n number ≡ None → (if is_none (firm n number) then values n number else None) ≡ None → (test : Bool) → (k == n) ≡ test → ⊥
      last sooner before none true same = here (eqb-true k n same) none
      last sooner before none false apart = sooner (earlier k n less (eqb-false k n apart)) before

      by : (k < n → noted firm values n number ≡ None → ⊥) → (before : Option ℕ) → noted firm values n number ≡ before → or_supplied before (if is_none (firm n number) then values n number else None) ≡ None → ⊥
      by sooner (Some other) before none = cc none
      by sooner None before none = last sooner before none (k == n) refl

-- ---- the comments of a register

-- the register's first value, or 0
note_has : (number first value : ℕ) (text : ℕ → List ℕ) → (first ≡ value) ⊎ (value ≡ 0) → Contains (note_line number (Some first) text) (note_by number value (text value))
note_has number first value text (inl same) =
    subst (λ v. Contains (note_line number (Some first) text) (note_by number v (text v))) same (in_front (note_by number first (text first)) (if first == 0 then [] else note_by number 0 (text 0)))
note_has number first value text (inr nothing) = subst (λ v. Contains (note_line number (Some first) text) (note_by number v (text v))) (sym nothing) (by (first == 0) refl)
  where
    by : (test : Bool) → (first == 0) ≡ test → Contains (note_by number first (text first) ++ (if test then [] else note_by number 0 (text 0))) (note_by number 0 (text 0))
    by true is = subst (λ v. Contains (note_by number first (text first) ++ []) (note_by number v (text v))) (eqb-true first 0 is) (in_front (note_by number first (text first)) [])
    by false is = behind (note_by number first (text first)) (note_by number 0 (text 0)) (note_by number 0 (text 0)) (alone (note_by number 0 (text 0)))

notes_have : (firm values : ℕ → ℕ → Option ℕ) (count number : ℕ) (numbers : List ℕ) → IsAmong number numbers
    → Contains (note_lines firm values count numbers) (note_line number (noted firm values count number) (noted_of firm values count number))
notes_have firm values count number [] among = absurd among
notes_have firm values count number (n ∷ ns) (inl same) =
    subst (λ m. Contains (note_lines firm values count (n ∷ ns)) (note_line m (noted firm values count m) (noted_of firm values count m))) same
    (in_front (note_line n (noted firm values count n) (noted_of firm values count n)) (note_lines firm values count ns))
notes_have firm values count number (n ∷ ns) (inr later) =
    behind (note_line n (noted firm values count n) (noted_of firm values count n)) (note_lines firm values count ns) (note_line number (noted firm values count number) (noted_of firm values count number))
    (notes_have firm values count number ns later)

-- ---- what an assumption gives

only_some : (allowed : Bool) (given value : ℕ) → only_if allowed (Some given) ≡ Some value → value ≡ given
only_some true given value is = cc is
only_some false given value is = cc is

zero_by : (test : Bool) (value : ℕ) → (if test then Some 0 else None) ≡ Some value → value ≡ 0
zero_by true value is = cc is
zero_by false value is = cc is

only_zero : (allowed test : Bool) (value : ℕ) → only_if allowed (if test then Some 0 else None) ≡ Some value → value ≡ 0
only_zero true test value is = zero_by test value is
only_zero false test value is = cc is

pat_value : (assumed : Assumed) (slots : ℕ → Slot) (known : Known) (number value : ℕ) → (number == 0x277) ≡ true → assumed_value assumed slots known number ≡ Some value → value ≡ assumed_pat known.format
pat_value assumed slots known number value same is = only_some assumed.pat (assumed_pat known.format) value (rw same at is)

-- Of processors behind the first it is the PAT's value, or 0.
later_value : (k : ℕ) (assumed : Assumed) (slots : ℕ → Slot) (known : Known) (number value : ℕ) → assumed_value (assumed_of (suc k) assumed) slots known number ≡ Some value → ((number == 0x277) ≡ true) ⊎ (value ≡ 0)
later_value k assumed slots known number value is = by (number == 0x277) (number == 0xfe) (is_pair_number number) (is_fixed_number number) (number == 0x2ff) is
  where
    by : (pat capabilities pair fixed default : Bool)
        → (if pat then only_if assumed.pat (Some (assumed_pat known.format)) else if capabilities then None else if pair then only_if assumed.pairs (assumed_zero slots number)
        else if fixed then None else if default then None else None) ≡ Some value → (pat ≡ true) ⊎ (value ≡ 0)
    by true capabilities pair fixed default is = inl refl
    by false true pair fixed default is = cc is
    by false false true fixed default is = inr (only_zero assumed.pairs (is_unshown slots number && has_pairs slots) value is)
    by false false false true default is = cc is
    by false false false false true is = cc is
    by false false false false false is = cc is

none_of : (o : Option ℕ) → o ≡ None → is_none o ≡ true
none_of None is = refl
none_of (Some value) is = cc is

of_none : (o : Option ℕ) → is_none o ≡ true → o ≡ None
of_none None is = refl
of_none (Some value) is = cc is

value_in : (o : Option ℕ) (value : ℕ) → o ≡ Some value → is_value o value ≡ true
value_in None value is = cc is
value_in (Some other) value is = let e : other ≡ value = cc is in rw e (same value)
  where
    same : (v : ℕ) → (v == v) ≡ true
    same v = grind (arith)

value_out : (o : Option ℕ) (value : ℕ) → is_value o value ≡ true → o ≡ Some value
value_out None value is = cc is
value_out (Some other) value is = ap Some (eqb-true other value is)

module _ (supplied : Supplied) (seen : Seen) where
  abbrev slots : ℕ → ℕ → Slot
  slots = slot_shown seen.readings

  abbrev values : ℕ → ℕ → Option ℕ
  values = values_of supplied (findings_of seen)

  abbrev firm : ℕ → ℕ → Option ℕ
  firm = firm_of supplied (findings_of seen)

  abbrev known : Known
  known = known_by supplied (findings_of seen)

  firm_is : (k number : ℕ) → firm k number ≡ firm_value supplied (slots k) number
  unfolding firm_of
  firm_is k number = refl

  assumed_is : (k number value : ℕ) → is_none (firm k number) ≡ true → values k number ≡ Some value → assumed_value (assumed_of k supplied.assumed) (slots k) known number ≡ Some value
  assumed_is k number value unfirm is =
      ap (λ o. or_supplied o (assumed_value (assumed_of k supplied.assumed) (slots k) known number)) (sym (of_none (firm k number) unfirm) ∙ firm_is k number)
      ∙ sym (value_is supplied (findings_of seen) k number) ∙ is

  same_or_zero : (count k number value first : ℕ) → k < count → is_none (firm k number) ≡ true → values k number ≡ Some value → noted firm values count number ≡ Some first → (first ≡ value) ⊎ (value ≡ 0)
  same_or_zero count zero number value first less unfirm is is_first =
      let e : Some first ≡ Some value = sym is_first ∙ noted_at firm values count zero number value less refl unfirm is in inl (cc e)
  same_or_zero count (suc k) number value first less unfirm is is_first =
      by (later_value k supplied.assumed (slots (suc k)) known number value (assumed_is (suc k) number value unfirm is))
    where
      by : ((number == 0x277) ≡ true) ⊎ (value ≡ 0) → (first ≡ value) ⊎ (value ≡ 0)
      by (inr nothing) = inr nothing
      by (inl pat) =
          let found = first_of firm values number count first is_first in
          let one = pat_value (assumed_of found.processor supplied.assumed) (slots found.processor) known number first pat (assumed_is found.processor number first found.unfirm found.has) in
          let two = pat_value (assumed_of (suc k) supplied.assumed) (slots (suc k)) known number value pat (assumed_is (suc k) number value unfirm is) in
          inl (one ∙ sym two)

  noted_by : (count k number value : ℕ) → k < count → is_none (firm k number) ≡ true → values k number ≡ Some value
      → Contains (note_line number (noted firm values count number) (noted_of firm values count number)) (note_by number value (noted_of firm values count number value))
  noted_by count k number value less unfirm is = by (noted firm values count number) refl
    where
      by : (first : Option ℕ) → noted firm values count number ≡ first → Contains (note_line number first (noted_of firm values count number)) (note_by number value (noted_of firm values count number value))
      by None none = absurd (some_first firm values number count k value less unfirm is none)
      by (Some first) is_first = note_has number first value (noted_of firm values count number) (same_or_zero count k number value first less unfirm is is_first)

  -- ---- no other comments

  module _ (capabilities : ℕ) where
    abbrev AreTrue : List ℕ → Type 0
    AreTrue = AreTrueNotes supplied seen capabilities

    no_notes : AreTrue []
    no_notes = record { comments = []; notes_are = refl; each = tt }

    one_note : (note : List ℕ) → IsTrueNote supplied seen capabilities note → AreTrue note
    one_note note is = record { comments = note ∷ []; notes_are = sym (append-nil note); each = (is, tt) }

    both_true : (a b : List ℕ) → AreTrue a → AreTrue b → AreTrue (a ++ b)
    both_true a b first second = record {
      comments = first.comments ++ second.comments;
      notes_are = ap (λ (t : List ℕ). t ++ b) first.notes_are ∙ ap (λ (t : List ℕ). concat first.comments ++ t) second.notes_are ∙ sym (concat-append first.comments second.comments);
      each = all_join (IsTrueNote supplied seen capabilities) first.comments second.comments first.each second.each;
    }

    alone_by : (k number value : ℕ) → is_noted firm values k number value ≡ true → IsAssumedAlone supplied seen k number value
    alone_by k number value noted =
        let parts = and_parts (is_none (firm k number)) (is_value (values k number) value) noted in
        record { unfirm = sym (firm_is k number) ∙ of_none (firm k number) parts.0; value_is = value_out (values k number) value parts.1 }

    all_alone : (number value : ℕ) (ks : List ℕ) → AreNamed firm values number (processors seen.readings) value ks → AllByRecursion (λ k. (k < processors seen.readings) × IsAssumedAlone supplied seen k number value) ks
    all_alone number value [] all = tt
    all_alone number value (k ∷ ks) all = ((all.0.0, alone_by k number value all.0.1), all_alone number value ks all.1)

    -- the comment on the processors that have a value, if there are any
    note_true : (number value : ℕ) → IsAmong number (needed (Some capabilities)) → AreTrue (note_by number value (noted_of firm values (processors seen.readings) number value))
    note_true number value among =
        let has = named_by firm values number (processors seen.readings) value in
        subst (λ (t : List ℕ). AreTrue (note_by number value t)) (sym has.text) (by has.named has.only)
      where
        by : (ks : List ℕ) → AreNamed firm values number (processors seen.readings) value ks → AreTrue (note_by number value (numbers_text ks))
        by [] all = no_notes
        by (k ∷ ks) all = one_note (note_by number value (numbers_text (k ∷ ks))) (on_register number value k ks among (all_alone number value (k ∷ ks) all) refl)

    line_true : (number : ℕ) (value : Option ℕ) → IsAmong number (needed (Some capabilities)) → AreTrue (note_line number value (noted_of firm values (processors seen.readings) number))
    line_true number None among = no_notes
    line_true number (Some value) among =
        both_true (note_by number value (noted_of firm values (processors seen.readings) number value)) (if value == 0 then [] else note_by number 0 (noted_of firm values (processors seen.readings) number 0))
        (note_true number value among) (by (value == 0))
      where
        by : (test : Bool) → AreTrue (if test then [] else note_by number 0 (noted_of firm values (processors seen.readings) number 0))
        by true = no_notes
        by false = note_true number 0 among

    lines_true : (numbers : List ℕ) → ((number : ℕ) → IsAmong number numbers → IsAmong number (needed (Some capabilities))) → AreTrue (note_lines firm values (processors seen.readings) numbers)
    lines_true [] among = no_notes
    lines_true (n ∷ ns) among =
        both_true (note_line n (noted firm values (processors seen.readings) n) (noted_of firm values (processors seen.readings) n)) (note_lines firm values (processors seen.readings) ns)
        (line_true n (noted firm values (processors seen.readings) n) (among n (inl refl))) (lines_true ns (λ number later. among number (inr later)))

    width_true : (firm_one all : Option ℕ) → firm_width supplied seen.width ≡ firm_one → width_by supplied slots seen.width ≡ all → AreTrue (width_note firm_one all)
    width_true (Some width) all is_firm is = no_notes
    width_true None None is_firm is = no_notes
    width_true None (Some width) is_firm is = one_note (width_note None (Some width)) (on_width width (record { unfirm = is_firm; width_is = is }) refl)

each_noted : (supplied : Supplied) (seen : Seen) (told : Outcome) (origins : HasOrigins supplied seen told) (k number value : ℕ) → k < processors seen.readings → IsAmong number (needed (Some origins.capabilities))
    → IsAssumedAlone supplied seen k number value → IsNoted told.notes k number value
each_noted supplied seen told origins k number value less among assumed =
    let count = processors seen.readings in
    let f = firm supplied seen in
    let v = values supplied seen in
    let unfirm = none_of (f k number) (firm_is supplied seen k number ∙ assumed.unfirm) in
    let named = named_by f v number count value in
    let numbers = needed (v 0 0xfe) in
    let here : IsAmong number numbers = subst (λ c. IsAmong number (needed c)) (sym origins.capabilities_is) among in
    let line = within (note_lines f v count numbers) (note_line number (noted f v count number) (noted_of f v count number)) (note_by number value (noted_of f v count number value))
    (notes_have f v count number numbers here) (noted_by supplied seen count k number value less unfirm assumed.value_is) in
    let all = behind (width_note (firm_width supplied seen.width) (width_by supplied (slot_shown seen.readings) seen.width)) (note_lines f v count numbers) (note_by number value (noted_of f v count number value)) line in
    record {
      before = all.before;
      named = named.named;
      others = all.others;
      names = named.each k less (both unfirm (value_in (v k number) value assumed.value_is));
      notes_are = origins.notes_are ∙ all.is ∙ ap (λ (t : List ℕ). all.before ++ (note_by number value t ++ all.others)) named.text;
    }
  where
    both : {a b : Bool} → a ≡ true → b ≡ true → (a && b) ≡ true
    both one two = rw (one, two) refl

abbrev register_notes : Supplied → Seen → List ℕ
register_notes supplied seen = note_lines (firm supplied seen) (values supplied seen) (processors seen.readings) (needed (values supplied seen 0 0xfe))

pub assumed_noted : (supplied : Supplied) (seen : Seen) (told : Outcome) (origins : HasOrigins supplied seen told) → AreNoted supplied seen origins.capabilities told.notes
assumed_noted supplied seen told origins = record {
  each = each_noted supplied seen told origins;
  width = λ width assumed. record {
    others = register_notes supplied seen;
    notes_are = origins.notes_are ∙ ap (λ (t : List ℕ). t ++ register_notes supplied seen) (ap (λ o. width_note o (width_by supplied (slot_shown seen.readings) seen.width)) assumed.unfirm ∙ ap (width_note None) assumed.width_is);
  };
  only = subst (AreTrueNotes supplied seen origins.capabilities) (sym origins.notes_are)
      (both_true supplied seen origins.capabilities (width_note (firm_width supplied seen.width) (width_by supplied (slot_shown seen.readings) seen.width)) (register_notes supplied seen)
      (width_true supplied seen origins.capabilities (firm_width supplied seen.width) (width_by supplied (slot_shown seen.readings) seen.width) refl refl)
      (lines_true supplied seen origins.capabilities (needed (values supplied seen 0 0xfe)) (λ number among. subst (λ c. IsAmong number (needed c)) origins.capabilities_is among)));
}
