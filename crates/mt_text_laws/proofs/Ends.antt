-- Where a feed stands, and how much of its text may still be read.
use Rattle.std.proofs.Common.{◌≡◌, ℕ, ◌-◌, ◌<◌, List, [], ◌++◌, Option, Some, None, sym, ◌∙◌, ap, arith, append-nil}
use Rattle.std.specs.Prelude.{Result, Ok}
use Rattle.mt_text.specs.Feed.{Drops, Feeding, IsLong, Lines, TakesMore, draw}
use Rattle.mt_text.specs.Text.{end_of}
use Rattle.mt_text.specs.declared.fault.FeedFault.{FeedFault}
use Rattle.mt_text.specs.declared.line.Line.{Line}
use Rattle.mt_text.proofs.EndPlace.{place_behind-end}
use Rattle.mt_text.proofs.Lent.{lends_lines, moves_on, passes, within_limit}

pub moves_place : (old new : Feeding) (gone before after : List ℕ) (given_before given_after : ℕ) (result : Result (Option Line) FeedFault) → old.place ≡ end_of gone → Lines old new (draw (Some before) (Some after) given_before given_after) result
    → (passed : List ℕ) × (old.pending ++ before ≡ passed ++ (new.pending ++ after)) × (new.place ≡ end_of (gone ++ passed))
moves_place old new gone before after given_before given_after result at lines =
    let (passed, holds) = passes old new before after given_before given_after result lines in
    (passed, holds.0, holds.1 gone at)

-- there is no line left
pub ends_at : (old new : Feeding) (gone before after : List ℕ) (given_before given_after : ℕ) → old.place ≡ end_of gone → Lines old new (draw (Some before) (Some after) given_before given_after) (Ok None)
    → new.place ≡ end_of (gone ++ (old.pending ++ before))
ends_at old new gone before after given_before given_after at lines =
    let none : old.pending ++ before ≡ [] = (lends_lines old new before (Some after) given_before given_after (Ok None) lines).2.0 in
    lines.3.0.4 ∙ at ∙ ap end_of (sym (append-nil gone) ∙ ap (λ (l : List ℕ). gone ++ l) (sym none))

-- what a drain has passed over
pub drops_place : (old new : Feeding) (gone more : List ℕ) → old.place ≡ end_of gone → Drops old new more
    → (passed : List ℕ) × (old.pending ++ more ≡ passed ++ new.pending) × (new.place ≡ end_of (gone ++ passed))
drops_place old new gone more at (counted, (passed, seen, behind)) = (passed, seen, behind ∙ place_behind-end gone passed old.place at)

-- all that was left has been dropped
pub drained_at : (old new : Feeding) (gone before : List ℕ) (given_before given_after : ℕ) → old.place ≡ end_of gone → TakesMore (draw (Some before) (Some []) given_before given_after) (Drops old new) → new.pending ≡ []
    → new.place ≡ end_of (gone ++ (old.pending ++ before))
drained_at old new gone before given_before given_after at (more, takes, given, drops) none =
    let (passed, seen, is) = drops_place old new gone more at drops in
    let all : passed ≡ old.pending ++ before = sym (append-nil passed) ∙ ap (λ l. passed ++ l) (sym none) ∙ sym seen ∙ ap (λ l. old.pending ++ l) (sym (append-nil more) ∙ sym takes) in
    is ∙ ap (λ l. end_of (gone ++ l)) all

pub falls : (old new : Feeding) (before left : Option (List ℕ)) (given_before given_after : ℕ) (line : Line) → old.fault ≡ None → IsLong old → Lines old new (draw before left given_before given_after) (Ok (Some line))
    → 16777217 - new.offset < 16777217 - old.offset
falls old new before left given_before given_after line none long lines = omega (arith, moves_on old new before left given_before given_after line lines, within_limit old long none)
