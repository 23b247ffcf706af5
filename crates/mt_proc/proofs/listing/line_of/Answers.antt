use Rattle.std.proofs.Common.{◌≡◌, ◌∙◌, ◌<◌, ap, sym, subst, ℕ, List, length}
use Rattle.mt_regs.specs.Alike.{IsWhole}
use Rattle.mt_regs.specs.RegisterFile.{pair_at}
use Rattle.mt_proc.specs.Listing.{pair_line}
use Rattle.mt_proc.proofs.Blocks.{accepted_masks}
use Rattle.mt_proc.proofs.listing.line_of.Goals as goal

pub pair_line-requires-clause-whole : goal.pair_line-requires-clause-whole
pair_line-requires-clause-whole c =
    let pairs : c.as_slice.result.now ≡ c.args.f.now.pairs = c.as_slice.ensures.value ∙ ap (λ f. f.pairs) c.f.view_is in
    let width : c.args.f.now.width ≡ c.f.inside.maxphy = ap (λ f. f.width) (sym c.f.view_is) in
    let is : c.in-Some.pair.now ≡ pair_at c.args.f.now.pairs c.args.n = c.in-Some.ensures.lookup.3.1 (0, 0) ∙ ap (λ (ps : List (ℕ × ℕ)). pair_at ps c.args.n) pairs in
    let within : c.args.n < length c.args.f.now.pairs = subst (λ (ps : List (ℕ × ℕ)). c.args.n < length ps) pairs c.in-Some.ensures.lookup.3.0 in
    subst (λ (m : ℕ). IsWhole m c.in-Some.pair.now) width
    (subst (IsWhole c.args.f.now.width) (sym is) (accepted_masks c.args.f.now c.is_register_file.ensures c.requires c.args.n within))

pub returns-in-Some-clause-text : goal.returns-in-Some-clause-text
returns-in-Some-clause-text c =
    let pairs : c.as_slice.result.now ≡ c.args.f.now.pairs = c.as_slice.ensures.value ∙ ap (λ f. f.pairs) c.f.view_is in
    let width : c.f.inside.maxphy ≡ c.args.f.now.width = ap (λ f. f.width) c.f.view_is in
    let is : c.in-Some.pair.now ≡ pair_at c.args.f.now.pairs c.args.n = c.in-Some.ensures.lookup.3.1 (0, 0) ∙ ap (λ (ps : List (ℕ × ℕ)). pair_at ps c.args.n) pairs in
    c.pair_line.ensures.text ∙ ap (λ (m : ℕ). pair_line m c.args.n c.in-Some.pair.now) width ∙ ap (pair_line c.args.f.now.width c.args.n) is
