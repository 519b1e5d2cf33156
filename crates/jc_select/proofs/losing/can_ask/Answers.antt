use Rattle.std.proofs.Common.{◌≡◌, ◌&&◌, ℕ, Bool, true, List, Option, is_some, sym, ◌∙◌, ap, arith}
use Rattle.jc_dropped.specs.Dropped.{is_exposed_to_some}
use Rattle.jc_facts.specs.Names.{Bytes}
use Rattle.jc_index.specs.Ids.{name_at}
use Rattle.jc_promises.specs.rule.Exposed.{is_hidden}
use Rattle.jc_sides.specs.SidesOf.{SidesOf}
use Rattle.jc_select.proofs.LostRows.{asked_in_row, asks_steady, asks_kept, asks_both, is_some-mapped}
use Rattle.jc_select.specs.steps.Losing.{hidden_of, is_asked, lost_at, mark_at}
use Rattle.jc_select.proofs.losing.can_ask.Goals as goal

pub returns-then-not-hidden-n : goal.returns-then-not-hidden-n
returns-then-not-hidden-n c =
    let s : SidesOf = c.args.sides.now in
    let rows : List (List ℕ) = c.args.lost.now.rows.items in
    let x : Bytes = name_at s.old c.args.id in
    let t : Bytes = name_at s.old c.args.of in
    let lost : lost_at s x t ≡ true = sym ((c.requires.lost.rows.each c.args.id c.requires.id).exact c.args.of c.requires.of) ∙ c.requires.row in
    let asked : is_asked s rows c.args.of ≡ is_hidden s.old t = asked_in_row s rows c.args.id c.args.of (omega (arith, c.requires.id, c.requires.lost.rows.count)) c.requires.row in
    let marked : mark_at c.hidden.result.now c.number-n.result ≡ is_hidden s.old t =
    ap (λ (ms : List Bool). mark_at ms c.number-n.result) c.hidden.ensures ∙ ap (mark_at (hidden_of c.args.lost.now)) c.number-n.ensures ∙ c.requires.lost.hidden.each c.args.of c.requires.of ∙ asked in
    asks_steady s x t lost (sym marked ∙ c.if-not-hidden-n.true)

pub returns-then-kept : goal.returns-then-kept
returns-then-kept c =
    let s : SidesOf = c.args.sides.now in
    let rows : List (List ℕ) = c.args.lost.now.rows.items in
    let x : Bytes = name_at s.old c.args.id in
    let t : Bytes = name_at s.old c.args.of in
    let lost : lost_at s x t ≡ true = sym ((c.requires.lost.rows.each c.args.id c.requires.id).exact c.args.of c.requires.of) ∙ c.requires.row in
    let asked : is_asked s rows c.args.of ≡ is_hidden s.old t = asked_in_row s rows c.args.id c.args.of (omega (arith, c.requires.id, c.requires.lost.rows.count)) c.requires.row in
    let marked : mark_at c.hidden.result.now c.number-n.result ≡ is_hidden s.old t =
    ap (λ (ms : List Bool). mark_at ms c.number-n.result) c.hidden.ensures ∙ ap (mark_at (hidden_of c.args.lost.now)) c.number-n.ensures ∙ c.requires.lost.hidden.each c.args.of c.requires.of ∙ asked in
    let hidden : is_hidden s.old t ≡ true = sym marked ∙ c.if-not-hidden-n.false in
    ap (mark_at c.args.found.now) c.number-n.ensures ∙ c.requires.found.each c.args.of c.requires.of
    ∙ ap (λ b. b && is_exposed_to_some s.old s.new t) (asked ∙ hidden)
    ∙ asks_kept s x t lost hidden (sym c.requires.kept ∙ c.if-kept.true)

pub returns : goal.returns
returns c =
    let s : SidesOf = c.args.sides.now in
    let rows : List (List ℕ) = c.args.lost.now.rows.items in
    let x : Bytes = name_at s.old c.args.id in
    let t : Bytes = name_at s.old c.args.of in
    let lost : lost_at s x t ≡ true = sym ((c.requires.lost.rows.each c.args.id c.requires.id).exact c.args.of c.requires.of) ∙ c.requires.row in
    let asked : is_asked s rows c.args.of ≡ is_hidden s.old t = asked_in_row s rows c.args.id c.args.of (omega (arith, c.requires.id, c.requires.lost.rows.count)) c.requires.row in
    let marked : mark_at c.hidden.result.now c.number-n.result ≡ is_hidden s.old t =
    ap (λ (ms : List Bool). mark_at ms c.number-n.result) c.hidden.ensures ∙ ap (mark_at (hidden_of c.args.lost.now)) c.number-n.ensures ∙ c.requires.lost.hidden.each c.args.of c.requires.of ∙ asked in
    let hidden : is_hidden s.old t ≡ true = sym marked ∙ c.if-not-hidden-n.false in
    c.is_some.ensures ∙ is_some-mapped (λ n. n.now) c.first_exposed.result ∙ ap (λ (o : Option Bytes). is_some o) c.first_exposed.ensures
    ∙ asks_both s x t lost hidden (sym c.requires.kept ∙ c.if-kept.false)
