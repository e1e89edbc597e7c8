-- An entry that is kept, as the ledger has it, field by field.
use Rattle.std.specs.Option.{option_map}
use Rattle.ledger.specs.Entries as ledger
use Rattle.entries.specs.Bounds.{said_bound}
use Rattle.entries.specs.declared.marks.Marks.{Marks}
use Rattle.entries.specs.declared.entry.Entry.{Entry}

abbrev pub said_marks : Marks → ledger.Marks
said_marks k = record {
  null_page = k.null_page;
  min = said_bound k.min;
  max = said_bound k.max;
  null_count = k.null_count;
  nan_count_of = k.nan_count;
  rep_counts = k.repetition_level_histogram;
  def_counts = k.definition_level_histogram;
}

abbrev pub said_entry : Entry → ledger.Entry
said_entry e = record {
  offset = e.offset;
  size = e.size;
  levels = e.levels;
  first_row = e.first_row;
  marks = option_map said_marks e.marks;
}
