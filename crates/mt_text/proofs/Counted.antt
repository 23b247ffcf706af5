-- A loop over the lines of a feed that had taken nothing, whatever the lines say: what it has consumed and counted, and what faults say of the source.
use Rattle.std.proofs.Common.{◌≡◌, ◌+◌, ◌-◌, ◌<◌, ℕ, List, [], ◌++◌, length, Option, Some, None, refl, sym, ◌∙◌, ap, arith, length-append}
use Rattle.std.specs.Prelude.{IfOk, IsErrOf, Result, Ok, Err}
use Rattle.std.specs.Io.KnownBytes.{Consumes, IsAtEnd}
use Rattle.std.proofs.KnownBytes.{Consumes-nil, Consumes-trans}
use Rattle.mt_ports.specs.Causes.{Rose}
use Rattle.mt_text.specs.Feed.{Draw, Drops, Feeding, IsLong, Lines, TakesMore, at_start, draw, taken}
use Rattle.mt_text.specs.declared.line.Line.{Line}
use Rattle.mt_text.specs.declared.fault.FeedFault.{FeedFault}
use Rattle.mt_text.proofs.Lent.{counted, moves_on, within_limit}

-- What was consumed since the start was counted.
abbrev pub Counts : Draw → ℕ → Type 0
Counts d count = TakesMore d (λ more. count ≡ length more)

-- between two lines
pub record IsFed (left_first left : Option (List ℕ)) (given_first given : ℕ) (feed : Feeding) : Type 0 where
  pub still : feed.fault ≡ None
  pub long : IsLong feed
  pub counts : Counts (draw left_first left given_first given) (taken feed)

pub fed_at_first : (left : Option (List ℕ)) (given : ℕ) (feed : Feeding) → feed ≡ at_start → IsFed left left given given feed
fed_at_first left given feed start = rw start (record {
  still = refl;
  long = (λ is. cc is, λ more. absurd (omega (arith, more)));
  counts = ([], Consumes-nil left, omega arith, refl);
})

module _ {left_first left : Option (List ℕ)} {given_first given : ℕ} {feed : Feeding} (fed : IsFed left_first left given_first given feed) where
  -- calls that have taken more
  counts_more : (after : Option (List ℕ)) (given_after total : ℕ) → TakesMore (draw left after given given_after) (λ more. total ≡ taken feed + length more) → Counts (draw left_first after given_first given_after) total
  counts_more after given_after total (more, consumes, gives, sum) =
      let (gone, before, gave, is) = fed.counts in
      (gone ++ more, Consumes-trans left_first left after gone more before consumes, omega (arith, gave, gives, length-append gone more), omega (arith, sum, is, length-append gone more))

module _ {left_first left : Option (List ℕ)} {given_first given : ℕ} {feed : Feeding} (fed : IsFed left_first left given_first given feed) (new : Feeding) (after : Option (List ℕ)) (given_after : ℕ) where
  -- a call that asks for a line
  pub counts_line : (result : Result (Option Line) FeedFault) → Lines feed new (draw left after given given_after) result → Counts (draw left_first after given_first given_after) (taken new)
  counts_line result lines = counts_more fed after given_after (taken new) (lines.0, lines.1, lines.2, omega (arith, lines.2, counted feed new left after given given_after result lines))

  -- a line that is lent
  module _ (line : Line) (lines : Lines feed new (draw left after given given_after) (Ok (Some line))) where
    pub still_on : new.fault ≡ None
    still_on = ap (λ f. f.fault) lines.3.0.0.2 ∙ fed.still

    pub fed_on : IsFed left_first after given_first given_after new
    fed_on = record { still = still_on; long = lines.3.1; counts = counts_line (Ok (Some line)) lines }

    -- a call that drops the rest behind it
    pub counts_rest : (last : Option (List ℕ)) (given_last : ℕ) (drained : Feeding) → TakesMore (draw after last given_after given_last) (Drops new drained) → Counts (draw left_first last given_first given_last) (taken drained)
    counts_rest last given_last drained (more, takes, given, drops) = counts_more fed_on last given_last (taken drained) (more, takes, given, drops.0)

    pub comes_nearer : 16777217 - new.offset < 16777217 - feed.offset
    comes_nearer = omega (arith, moves_on feed new left after given given_after line lines, within_limit feed fed.long fed.still)

-- a source that told its bytes tells that nothing is left
pub nothing_left : {E : Type 0} {T : Type 0} (left_first left : Option (List ℕ)) (bytes gone : List ℕ) (result : Result T E) → left_first ≡ Some bytes → Consumes left_first left gone → IfOk result (λ _. IsAtEnd left) → IfOk result (λ _. left ≡ Some [])
nothing_left None left bytes gone result is consumes end = cc is
nothing_left (Some xs) None bytes gone result is consumes end = absurd consumes
nothing_left (Some xs) (Some ys) bytes gone (Ok value) is consumes end = ap Some end
nothing_left (Some xs) (Some ys) bytes gone (Err fault) is consumes end = tt

same_fault : {T : Type 0} (fault other : FeedFault) → IsErrOf {T = T} (Err fault) other → fault ≡ other
same_fault fault other is = cc is

-- `?` hands a call's fault on, and no fault came before
module _ {T U : Type 0} {first before after : ℕ} {call : Result T FeedFault} {result : Result U FeedFault} {given fault : FeedFault} (was : call ≡ Err given) (handed : result ≡ Err fault) (same : fault ≡ given) (stood : before ≡ first) where
  pub failed_on : (IsErrOf call FeedFault.ReadFault → Rose before after) → IsErrOf result FeedFault.ReadFault → Rose first after
  failed_on failed is = rw stood at (failed (was ∙ ap Err (sym same ∙ same_fault {T = U} fault FeedFault.ReadFault (rw handed at is))))

  pub stands_on : ((IsErrOf call FeedFault.ReadFault → ⊥) → after ≡ before) → (IsErrOf result FeedFault.ReadFault → ⊥) → after ≡ first
  stands_on stands other = stands (λ is. other (rw handed (ap Err (same ∙ same_fault {T = T} given FeedFault.ReadFault (sym was ∙ is))))) ∙ stood

-- a call without a fault leaves the count of faults
pub stands_after : {T : Type 0} {first before after : ℕ} {call : Result T FeedFault} {value : T} → call ≡ Ok value → before ≡ first → ((IsErrOf call FeedFault.ReadFault → ⊥) → after ≡ before) → after ≡ first
stands_after was stood stands = stands (λ is. let e = rw was at is in absurd (cc e)) ∙ stood
