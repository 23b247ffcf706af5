use Rattle.std.proofs.Common.{◌≡◌, ℕ, ◌+◌, ◌-◌, ◌<◌, List, [], ◌∷◌, ◌++◌, map, take, suc, refl, ap, ◌∙◌, arith}
use Rattle.std.specs.List.{AllByRecursion}
use Rattle.mt_text.specs.Words.{AreBounds, word_between}
use Rattle.mt_text.proofs.first.find_bounds.Goals as goal

-- one more word at the end, and one less to come
one_more : (text : List ℕ) (found : List (ℕ × ℕ)) (bounds : ℕ × ℕ) (count : ℕ) (left all rest : List (ℕ × List ℕ)) → count < 7
    → map (word_between text) found ++ take (7 - count) left ≡ all → left ≡ word_between text bounds ∷ rest
    → map (word_between text) (found ++ bounds ∷ []) ++ take (7 - (count + 1)) rest ≡ all
one_more text found bounds count left all rest few leads is = after (7 - (count + 1)) (omega arith) found all (rw is at leads)
  where
    after : (k : ℕ) → 7 - count ≡ suc k → (xs : List (ℕ × ℕ)) (whole : List (ℕ × List ℕ)) → map (word_between text) xs ++ take (7 - count) (word_between text bounds ∷ rest) ≡ whole
        → map (word_between text) (xs ++ bounds ∷ []) ++ take k rest ≡ whole
    after k more [] whole so = rw more at so
    after k more (x ∷ xs) whole so = ap (λ l. word_between text x ∷ l) (after k more xs _ refl) ∙ so

all_then : (text : List ℕ) (found : List (ℕ × ℕ)) (bounds : ℕ × ℕ) → AllByRecursion (AreBounds text) found → AreBounds text bounds → AllByRecursion (AreBounds text) (found ++ bounds ∷ [])
all_then text [] bounds all last = (last, tt)
all_then text (x ∷ xs) bounds all last = (all.0, all_then text xs bounds all.1 last)

pub words-preserved : goal.words-preserved
words-preserved c =
    let bounds = c.in-Some.ensures.bounds in
    let items = c.push.ensures.items in
    record {
      within = bounds.2;
      size = omega (arith, c.push.ensures.len, c.words.invariant.size);
      inside = rw items (all_then c.args.text.now c.words.bounds.items _ c.words.invariant.inside (omega (arith, bounds.1), bounds.2));
      leads = rw items (one_more c.args.text.now c.words.bounds.items (c.in-Some.start, c.in-Some.end) c.words.counter _ _ _ (omega arith) c.words.invariant.leads c.in-Some.ensures.word);
    }
