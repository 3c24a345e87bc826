use Rattle.std.proofs.Common.{◌≤◌, arith, length}
use Rattle.racl_io.specs.Inputs.{most_bytes}
use Rattle.racl_system.proofs.FileLemmas.{read_pushed, text_of_read}
use Rattle.racl_system.proofs.file_expanding.add_file.Goals as goal

pub returns : goal.returns
returns g c = λ before.
    let few : length c.in-Ok-bytes_of.text.items ≤ most_bytes = omega (arith, c.len.ensures, c.if-len-gt-MOST_BYTES.false) in
    read_pushed (g.S.SystemFiles.named c.args.system.now) c.args.files.now.items c.push.new.self.items _ c.args.name.now _ _ c.push.ensures.items
    c.in-Ok-from_str.ensures.ok c.in-Ok.ensures
    (text_of_read _ c.in-Ok-bytes_of.text.items c.end_last_line.new.text.items c.in-Ok-bytes_of.ensures.read few c.in-Ok-end_last_line.ensures) before
