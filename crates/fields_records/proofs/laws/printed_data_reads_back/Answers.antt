use Rattle.fields_records.proofs.DataBack.{data_back, line_words}
use Rattle.fields_records.proofs.PrintedLaws.{PrintedLaws}
use Rattle.fields_records.proofs.ReadAgain.{data_again, records_again}
use Rattle.fields_records.proofs.RecordBack.{LinesSplit, record_back}
use Rattle.fields_records.proofs.laws.printed_data_reads_back.Goals as goal

pub returns : goal.returns
returns c =
    let values = c.printed_values_are_words.ensures in
    let plain_words = c.printed_plain_values_are_words.ensures in
    let form_words = c.printed_forms_are_words.ensures in
    let list_words = c.printed_lists_are_words.ensures in
    let records_split = c.printed_records_are_words.ensures.records in
    let plain = c.printed_plain_values_read_back.ensures in
    let forms = c.printed_forms_read_back.ensures in
    let read_lists = c.printed_lists_read_back.ensures in
    let octets = c.printed_values_read_back.ensures in
    let laws : PrintedLaws =
    record {
      words = record {
        numbers = values.numbers;
        types = plain_words.types;
        times = plain_words.times;
        names = plain_words.names;
        strings = values.strings;
        tags = values.tags;
        salts = plain_words.salts;
        hashes = plain_words.hashes;
        ipv4 = plain_words.ipv4;
        ipv6 = plain_words.ipv6;
        locators = plain_words.locators;
        eui = plain_words.eui;
        hexadecimal = values.hexadecimal;
        base64 = values.base64;
      };
      lists = record {
        sized = plain_words.sized;
        strings = list_words.strings;
        types = list_words.types;
        parameters = c.printed_parameters_are_words.ensures;
        prefixes = list_words.prefixes;
        locations = form_words.locations;
        gateways = form_words.gateways;
        relays = form_words.relays;
        identities = form_words.identities;
      };
      reading = record {
        types = plain.types;
        names = plain.names;
        strings = octets.strings;
        salts = plain.salts;
        hashes = plain.hashes;
        ipv4 = plain.ipv4;
        ipv6 = plain.ipv6;
        locators = plain.locators;
        eui = plain.eui;
        hexadecimal = octets.hexadecimal;
        base64 = octets.base64;
        type_maps = read_lists.type_maps;
        small_type_maps = read_lists.small_type_maps;
        parameters = c.printed_parameters_read_back.ensures;
        prefixes = read_lists.prefix_fields;
        locations = forms.locations;
        gateways = forms.gateways;
        relays = forms.relays;
        identities = forms.identities;
      };
    } in
    let all = c.fields_are_all.ensures in
    let splits = c.printed_fields_split.ensures.rdata in
    let lines : LinesSplit = λ own bytes. let line = line_words all splits own bytes in (line.0, line.2) in
    let rdata = data_back laws all splits in
    let records = record_back plain.types plain.names records_split lines rdata in
    record { rdata = rdata; records = records; rdata_again = data_again lines rdata; records_again = records_again records_split lines records }
