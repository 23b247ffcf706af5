-- Which registers give pages their types (own).
--     AreDeciders file first end deciders      the longest runs of pages from first up to end that have the same ones
use Rattle.std.specs.Prelude.{ℕ, min, nat_lt, Bool, not, ◌&&◌, List, Option, None, Some, if◌then◌else◌}
use Rattle.std.specs.List.{filter}
use Rattle.mt_kinds.specs.declared.mem_type.MemType.{MemType}
use Rattle.mt_kinds.specs.declared.mem_type.MemType.TheVariants.{UC}
use Rattle.mt_ranges.specs.FixedPart.{fixed_part}
use Rattle.mt_regs.specs.RegisterFile.{RegisterFile, is_enabled, page_count, pair_at}
use Rattle.mt_regs.specs.PageTypes.{are_one, has_uncached, is_type, matching_types, pair_type}
use Rattle.mt_explain.specs.declared.decider.Decider.{Decider}
use Rattle.mt_explain.specs.declared.decider.Decider.TheVariants.{Switch, Fixed, Pairs}
use Rattle.mt_explain.specs.declared.rule.Rule.{Rule}
use Rattle.mt_explain.specs.declared.rule.Rule.TheVariants.{Off, FixedByte, NoPair, OneType, UncachedWins, ThroughOverBack, NotDefined}
use Rattle.mt_explain.specs.declared.span.Span.{Span}
use Rattle.mt_explain.specs.Clashes.{numbers}
use Rattle.mt_explain.specs.Pairs.{matching_pairs}
use Rattle.mt_explain.specs.Rules.{is_fixed}
use Rattle.mt_explain.specs.Spans.{AreSpans}

abbrev pub is_uncached_pair : RegisterFile → ℕ → Bool
is_uncached_pair f n = is_type UC (pair_type (pair_at f.pairs n))

abbrev pub uncached_of : RegisterFile → List ℕ → List ℕ
uncached_of f pairs = filter (is_uncached_pair f) pairs

-- of pairs that match, those of UC if it wins over other types
abbrev pub deciding_of : RegisterFile → List MemType → List ℕ → List ℕ
deciding_of f types pairs = if has_uncached types && not (are_one types) then uncached_of f pairs else pairs

abbrev pub deciding_pairs : RegisterFile → ℕ → List ℕ
deciding_pairs f page = deciding_of f (matching_types f page) (matching_pairs f page)

abbrev pub decider_of : RegisterFile → ℕ → Decider
decider_of f page =
    if not (is_enabled f) then Switch
    else if is_fixed f page then Fixed (fixed_part page).0
    else Pairs (numbers (deciding_pairs f page))

-- no page before the first is looked at
abbrev pub decider_from : RegisterFile → ℕ → ℕ → Option Decider
decider_from f first page = if nat_lt page first then None else Some (decider_of f page)

abbrev pub AreDeciders : RegisterFile → ℕ → ℕ → List (Span Decider) → Type 0
AreDeciders f first end deciders = AreSpans (decider_from f first) 0 (min end (page_count f)) deciders

-- the registers that a case names, if these pairs match
abbrev pub named_by : RegisterFile → Rule → List ℕ → Decider
named_by f Off pairs = Switch
named_by f (FixedByte place byte) pairs = Fixed place
named_by f NoPair pairs = Pairs (numbers pairs)
named_by f OneType pairs = Pairs (numbers pairs)
named_by f UncachedWins pairs = Pairs (numbers (uncached_of f pairs))
named_by f ThroughOverBack pairs = Pairs (numbers pairs)
named_by f NotDefined pairs = Pairs (numbers pairs)
