use Rattle.std.proofs.Common.{◌≡◌, length, ap, arith}
use Rattle.hd_path.specs.Names.{identifier_len}
use Rattle.hd_path.proofs.Bytes.{identifier-identifier_len, identifier_len-le}
use Rattle.hd_path.proofs.path.Path.child.Goals as goal

pub with_name-requires-clause-name : goal.with_name-requires-clause-name
with_name-requires-clause-name c =
    let whole : identifier_len c.args.name.now ≡ length c.args.name.now =
    omega (arith, c.identifier_len-len.ensures.len, ap identifier_len c.as_bytes.ensures.value, identifier_len-le c.args.name.now) in
    record { identifier = identifier-identifier_len c.args.name.now (omega arith) whole; short = omega arith }
