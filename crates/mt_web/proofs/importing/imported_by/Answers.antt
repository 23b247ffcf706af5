use Rattle.std.proofs.Common.{map, refl, string_bytes}
use Rattle.mt_web.proofs.Imported.{imports_for}
use Rattle.mt_web.proofs.importing.imported_by.Goals as goal

pub returns : goal.returns
returns c =
    let does = c.import-status.ensures in
    imports_for (map string_bytes c.args.words.now) c.args.input.now _ _ _ _ _ c.import-status.result c.new-sink.ensures does.read_fault (does.imports c.args.input.now (rw (c.new-source.ensures.0, c.new-source.ensures.1) refl))
    c.ended.ensures.text c.ended.ensures.number
