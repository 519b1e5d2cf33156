-- The report of help.
use Rattle.std.proofs.Common.{◌≡◌}
use Rattle.jc_base.specs.States.{TreesState}
use Rattle.jc_facts.specs.Names.{Bytes}
use Rattle.jc_words.specs.Command.{HelpCommand}
use Rattle.jc_words.specs.Help.{help_page}
use Rattle.jc_commands.specs.ReportValue.{TellsOf, IsBare, IsReportOf}
use Rattle.jc_commands.specs.declared.report.Report.{Report}
use Rattle.jc_commands.proofs.Bodies.{bare_dir, bare_puts, bare_can}

pub page_reported : (page : Bytes) (report : Report) → page ≡ help_page → IsBare report.body → TellsOf HelpCommand page report → (trees : TreesState) → IsReportOf HelpCommand trees report
page_reported page report is none tells trees = record {
  of = page;
  tells = tells;
  dir_is = bare_dir report.body none;
  can_show = bare_can report.body none;
  is_report = λ files. (tt, is, bare_puts report.body none);
  upholds = tt;
}
