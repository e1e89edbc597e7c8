-- A record that is answered, as the ledger has it, field by field.
use Rattle.std.specs.Option.{option_map}
use Rattle.ledger.specs.Records as ledger
use Rattle.page_log.specs.declared.record.Order.{Order}
use Rattle.page_log.specs.declared.record.Record.{Record}

abbrev pub said_order : Order → ledger.Order
said_order o = record {
  ascending = o.ascending;
  descending = o.descending;
  boundary = ledger.boundary_number o.boundary;
}

abbrev pub said_record : Record → ledger.Record
said_record r = record {
  figures = record {
    rows = r.rows;
    levels = r.levels;
    nulls = r.nulls;
    nans = r.nans;
    rep_counts = r.repetition_level_histogram;
    def_counts = r.definition_level_histogram;
    min = r.min;
    max = r.max;
  };
  bytes = r.bytes;
  order = option_map said_order r.order;
}
