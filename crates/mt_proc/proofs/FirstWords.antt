-- A line is read by its first seven words: no request has more than three.
use Rattle.std.proofs.Common.{◌≡◌, ℕ, ◌≤◌, ◌<◌, ◌==◌, nat_lt, Bool, true, false, List, [], ◌∷◌, length, take, Option, Some, None, Ok, Err, refl, ap, arith, lit≤}
use Rattle.std.specs.Prelude.{◌↔◌, if◌then◌else◌}
use Rattle.std.proofs.lemmas.Bool.Decides.{nat_tests}
use Rattle.mt_text.specs.Text.{words_of}
use Rattle.mt_text.specs.Words.{place_of, text_of}
use Rattle.mt_script.specs.Numbers.{with}
use Rattle.mt_script.proofs.FirstWords.{by_length, size, word_first}
use Rattle.mt_proc.specs.Requests.{ReadRequest, asked_by, by_heads, count_fault, fault_at, request_in, request_of}
use Rattle.mt_proc.specs.declared.request.ProcReason.TheVariants.{BadLine}

module _ (words : List (ℕ × List ℕ)) (many : 7 ≤ length words) (number : ℕ) where
  too_many : (wanted : ℕ) → wanted < 7 → count_fault number (take 7 words) wanted ≡ count_fault number words wanted
  too_many wanted few =
      let first : nat_lt 7 wanted ≡ false = grind (arith, nat_tests) in
      let more : nat_lt wanted 7 ≡ true = grind (arith, nat_tests) in
      let enough : nat_lt (length words) wanted ≡ false = grind (arith, nat_tests) in
      let past : nat_lt wanted (length words) ≡ true = grind (arith, nat_tests) in
      rw (size words many, first, more, enough, past, word_first words many wanted few) refl

  is_fault : (wanted : ℕ) → wanted < 7 → count_fault number words wanted ≡ Some (fault_at BadLine (place_of number words wanted))
  is_fault wanted few =
      let enough : nat_lt (length words) wanted ≡ false = grind (arith, nat_tests) in
      let past : nat_lt wanted (length words) ≡ true = grind (arith, nat_tests) in
      rw (enough, past) refl

  heads_first : (base pair : Option (List ℕ)) → by_heads number (take 7 words) base pair ≡ by_heads number words base pair
  heads_first (Some base) pair = rw (too_many 3 (lit≤ tt), is_fault 3 (lit≤ tt)) refl
  heads_first None (Some digits) = rw (too_many 1 (lit≤ tt), is_fault 1 (lit≤ tt)) refl
  heads_first None None = rw (word_first words many 0 (lit≤ tt)) refl

  many_first : request_in number (take 7 words) ≡ request_in number words
  many_first =
      let text : text_of (take 7 words) 0 ≡ text_of words 0 = ap (λ w. w.1) (word_first words many 0 (lit≤ tt)) in
      rw text (heads_first _ _)

pub asked_first : (number : ℕ) (words : List (ℕ × List ℕ)) → asked_by number (take 7 words) ≡ asked_by number words
asked_first number words = by_length words (asked_by number) (λ many.
    let some : (length words == 0) ≡ false = grind (arith, nat_tests) in
    rw (size words many, some) (ap (λ asked. with asked (λ request. Ok (Some request))) (many_first words many number)))

-- ---- lines without words

none_asked : (answer : ReadRequest) → with answer (λ request. Ok (Some request)) ≡ Ok None → ⊥
none_asked (Ok request) is = cc is
none_asked (Err fault) is = cc is

pub blank_exactly : (number : ℕ) (line : List ℕ) → (request_of number line ≡ Ok None) ↔ ((length line ≤ 4096) × (words_of line ≡ []))
blank_exactly number line = by (nat_lt 4096 (length line)) refl (words_of line)
  where
    few : nat_lt 4096 (length line) ≡ false → length line ≤ 4096
    few test = grind (arith, nat_tests, test)

    many : nat_lt 4096 (length line) ≡ true → length line ≤ 4096 → ⊥
    many test short = grind (arith, nat_tests, test, short)

    by : (long : Bool) → nat_lt 4096 (length line) ≡ long → (words : List (ℕ × List ℕ))
        → ((if long then Err (fault_at BadLine (record { line = number; column = 4097 })) else asked_by number words) ≡ Ok None) ↔ ((length line ≤ 4096) × (words ≡ []))
    by true is words = (λ asked. cc asked, λ h. absurd (many is h.0))
    by false is [] = (λ asked. (few is, refl), λ h. refl)
    by false is (word ∷ words) =
        let some : (length (word ∷ words) == 0) ≡ false = grind (arith, nat_tests) in
        (λ asked. absurd (none_asked (request_in number (word ∷ words)) (rw some at asked)), λ h. cc h.1)
