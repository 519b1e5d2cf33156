use Rattle.std.proofs.Common.{◌≡◌, ◌∙◌, ◌+◌, ◌++◌, ℕ, List, length, take, drop, arith, rules, ap, sym, subst}
use Rattle.std.proofs.lemmas.List.{drop-take, length-take-le}
use Rattle.std.proofs.Math.Seq.{take-append_seam}
use Rattle.std.specs.Io.{appended_bytes}
use Rattle.std.specs.Io.KnownBytes.{Consumes}
use Rattle.jc_base.proofs.file_buf.FileBuf.append_from.Goals as goal

pub returns-clause-bytes : goal.returns-clause-bytes
returns-clause-bytes g c =
    let inside = c.self.inside in
    let count = c.in_ok-count.count in
    let room = c.read_at.new.room in
    let rest = drop (length room) inside.room.items in
    let held : length c.args.self.now ≡ inside.len = rw (← c.self.view_is) (length-take-le inside.len inside.room.items (omega (arith, c.self.invariant))) in
    let full : length room ≡ inside.room.len = search rules in
    let whole : take inside.room.len (room ++ rest) ≡ room = rw (← full) (take-append_seam room rest) in
    let read : take count (drop inside.len room) ≡ appended_bytes c.args.self.now (take (inside.len + count) (take inside.room.len (room ++ rest))) =
    sym (ap (λ (n : ℕ). drop n (take (inside.len + count) (take inside.room.len (room ++ rest)))) held
    ∙ ap (λ (bytes : List ℕ). drop inside.len (take (inside.len + count) bytes)) whole ∙ drop-take inside.len count room) in
    subst (λ (bytes : List ℕ). Consumes (g.R.Read.remaining c.args.source.now) (g.R.Read.remaining c.read_at.new.source) bytes) read c.in_ok-count.ensures.bytes
