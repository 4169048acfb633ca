-- Document 01, "Words from the radio": "A fresh status record is what all-zero words give." Assumes nothing.
use Rattle.std.specs.Prelude.{true, false}
use Rattle.radio_status.specs.declared.record.Status.{Status}

abbrev pub fresh_status : Status
fresh_status =
    record {
      dot = false;
      dash = false;
      ptt = false;
      overflow = record { adc1 = false; adc2 = false; adc3 = false; adc4 = false };
      inputs = record { io1 = true; io2 = true; io3 = true; io4 = true; pll = false; toggle = false; mercury = 0; penelope = 0; main = 0 };
      forward = record { ain5 = 0; ain1 = 0 };
      reverse = record { ain2 = 0; ain3 = 0 };
      supply = record { ain4 = 0; ain6 = 0 };
      versions = record { board1 = 0; board2 = 0; board3 = 0; board4 = 0 };
    }
